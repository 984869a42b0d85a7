-- The open routes on the stack tell the port of every address from the present one on, up to the next beginning. Assumes nothing.
use mathlib.Core.Path.{◌≡◌, refl, sym, ap, ◌∙◌}
use mathlib.Core.Logic.{⊎_elim}
use mathlib.Core.Bool.{true, false}
use mathlib.Core.List.{List}
use Prim.Native.Nat.{ℕ, zero, suc, ◌+◌, ◌-◌, ◌^◌, ◌≤◌, ◌<◌}
use native.Mathlib.Omega.{arith}
use native.Mathlib.Numerals.{add-one}
use lib.Dec.{eqb, ltb}
use lib.Pow.{pow_pos}
use lib.ListN.{length, set, length-set}
use lib.Seq.{get_or-set_same, get_or-set_other}
use borrow.Author.Tests.{eqb-true, eqb-false, lt-ltb, le-ltb, le-leb, lt-leb, ltb-true, ltb-false}
use Rattle.bits.specs.Prefix.{first, last}
use Rattle.lists.proofs.Tests.{way, test_no}
use Rattle.bits.proofs.Prefix.{matches_within, matches→within, within→matches, matches_refl, first_valid}
use Rattle.bits.proofs.Order.{precedes_value_le}
use Rattle.routes.specs.Routes.{ValidList}
use Rattle.routes.specs.Scan.{scan_of, last_match, route_matches}
use Rattle.routes.specs.declared.Route.{Route}
use Rattle.routes.proofs.Rising.{before, match_longer}
use Rattle.routes.proofs.Scan.{scan_is_last}
use Rattle.runs_write.specs.Sweep.{start_of, open_route, open_at, look}
use Rattle.runs_write.specs.Needs.{Held, Open}
use Rattle.runs_write.specs.declared.sweep.OpenRoute.{OpenRoute}

module _ (w : ℕ) (R : ℕ → Route) (n : ℕ) where
  abbrev ends_of : ℕ → ℕ
  ends_of k = last w (R k).value (R k).len

  -- where the next route begins

  pub start_in : (i : ℕ) → ValidList w R n → i < n → start_of w R n i ≡ (R i).value
  unfolding start_of
  start_in i ok h = rw (lt-ltb i n h) (first_valid w (R i).value (R i).len (ok.each i h).prefix)

  pub start_out : (i : ℕ) → n ≤ i → start_of w R n i ≡ 2 ^ w - 1
  unfolding start_of
  start_out i h = rw (le-ltb i n h)

  pub start_lt : (i : ℕ) → ValidList w R n → start_of w R n i < 2 ^ w
  start_lt i ok =
      ⊎_elim
      (λ (t : ltb i n ≡ true).
      let h = ltb-true i n t in omega (arith, start_in i ok h, (ok.each i h).prefix.fits))
      (λ (t : ltb i n ≡ false). omega (arith, start_out i (ltb-false i n t), pow_pos w))
      (way (ltb i n))

  pub start_le : (i : ℕ) → ValidList w R n → i < n → start_of w R n i ≤ start_of w R n (i + 1)
  start_le i ok h =
      ⊎_elim
      (λ (t : ltb (i + 1) n ≡ true).
      let l = ltb-true (i + 1) n t in
      omega (arith, start_in i ok h, start_in (i + 1) ok l, precedes_value_le (before w R n ok i (i + 1) (omega arith) l)))
      (λ (t : ltb (i + 1) n ≡ false). omega (arith, start_lt i ok, start_out (i + 1) (ltb-false (i + 1) n t)))
      (way (ltb (i + 1) n))

  pub open_none : (stack : List OpenRoute) → ValidList w R n → length stack ≡ w + 2 → open_at stack 0 ≡ open_route (2 ^ w - 1) 0
      → Open w R n stack 0 0 0
  unfolding last_match look
  open_none stack ok size whole = record {
    valid = ok;
    taken = omega arith;
    deep = omega arith;
    size = size;
    whole = whole;
    held = λ j h. absurd (omega arith);
    sees = λ a h. refl;
  }

  -- the innermost has ended before a later address: there is one, and it is closed there
  pub open_closed : (stack : List OpenRoute) (d i at to : ℕ) → Open w R n stack d i at → at ≤ to → (open_at stack d).end < to → to < 2 ^ w
      → (0 < d) × Open w R n stack (d - 1) i to
  unfolding look
  open_closed stack zero i at to o l h k = absurd (omega (arith, ap (λ (x : OpenRoute). x.end) o.whole))
  open_closed stack (suc d) i at to o l h k =
      let p : suc d - 1 ≡ d = omega arith in (
        omega arith,
        rw p
            (record {
              valid = o.valid;
              taken = o.taken;
              deep = omega (arith, o.deep);
              size = o.size;
              whole = o.whole;
              held = λ j m. o.held j (omega arith);
              sees = λ a m. o.sees a (omega arith) ∙ rw (lt-leb a (open_at stack (suc d)).end (omega arith)) refl;
            }),
      )

  -- the stack below the place that is written
  look_set : (stack : List OpenRoute) (x : OpenRoute) (d j a : ℕ) → j ≤ d → look (set stack (suc d) x) j a ≡ look stack j a
  unfolding look
  look_set stack x d zero a h = refl
  look_set stack x d (suc j) a h =
      rw (get_or-set_other stack (suc d) (suc j) x (open_route 0 0) (λ e. omega arith), look_set stack x d j a (omega arith))
      refl

  module _ (ok : ValidList w R n) where
    value_le : (j k : ℕ) → j < k → k < n → (R j).value ≤ (R k).value
    value_le j k h l = precedes_value_le (before w R n ok j k h l)

    first_is : (k : ℕ) → k < n → first w (R k).value (R k).len ≡ (R k).value
    first_is k h = first_valid w (R k).value (R k).len (ok.each k h).prefix

    -- a later route that begins within an earlier one is longer
    nested_longer : (j k : ℕ) → j < k → k < n → (R k).value ≤ ends_of j → (R j).len < (R k).len
    nested_longer j k h l m =
        match_longer w R n ok j k (R k).value h l
        (within→matches w (R j).value (R j).len (R k).value (omega (arith, first_is j (omega arith), value_le j k h l)) m)
        (matches_refl w (R k).value (R k).len)

    -- the routes on the stack are each longer than those below them, so that there are no more than lengths
    deep_le : (stack : List OpenRoute) (d i at : ℕ) → Open w R n stack d i at → i < n → (R i).value ≤ (open_at stack d).end → d ≤ (R i).len
    deep_le stack zero i at o h e = omega arith
    deep_le stack (suc d) i at o h e =
        let q = o.held d (omega arith) in
        omega (arith, nested_longer q.which i q.earlier h (omega (arith, q.end_is)), q.long)

    -- routes that begin later do not match
    later_none : (i a : ℕ) → (i < n → a < (R i).value) → (k : ℕ) → i + k ≤ n → last_match w R (i + k) a ≡ last_match w R i a
    unfolding last_match
    later_none i a h zero l = let z : i + 0 ≡ i = omega arith in rw z refl
    later_none i a h (suc k) l =
        let z : i + suc k ≡ suc (i + k) = omega arith in
        let s : (R i).value ≤ (R (i + k)).value =
        ⊎_elim
        (λ (t : eqb k 0 ≡ true). let y : i + k ≡ i = omega (arith, eqb-true k 0 t) in rw y (omega arith))
        (λ (t : eqb k 0 ≡ false). let ne : (k ≡ 0 → ⊥) = eqb-false k 0 t in value_le i (i + k) (omega arith) (omega arith))
        (way (eqb k 0)) in
        let no : route_matches w a (R (i + k)) ≡ false =
        test_no (route_matches w a (R (i + k)))
        (λ t. omega (arith, (matches→within w (R (i + k)).value (R (i + k)).len a t).0, first_is (i + k) (omega arith), h (omega arith))) in
        rw (z, no) (later_none i a h k (omega arith))

  -- a route that has begun goes on the stack
  module _ (stack : List OpenRoute) (d i at : ℕ) (o : Open w R n stack d i at) (here : i < n) (begun : (R i).value ≤ at)
      (within : (R i).value ≤ (open_at stack d).end) where
    abbrev here_open : OpenRoute
    here_open = open_route (ends_of i) (R i).port

    abbrev stack' : List OpenRoute
    stack' = set stack (suc d) here_open

    long : d ≤ (R i).len
    long = deep_le o.valid stack d i at o here within

    pub stack_room : d < w + 1
    stack_room = omega (arith, long, (o.valid.each i here).prefix.short)

    top : open_at stack' (suc d) ≡ here_open
    top = get_or-set_same stack (suc d) here_open (open_route 0 0) (omega (arith, o.size, stack_room))

    below : (j : ℕ) → (j ≡ suc d → ⊥) → open_at stack' j ≡ open_at stack j
    below j ne = get_or-set_other stack (suc d) j here_open (open_route 0 0) ne

    holds : (j : ℕ) → j < suc d → Held w R (suc i) j (open_at stack' (suc j)).end
    holds j k =
        ⊎_elim
        (λ (t : eqb j d ≡ true).
        let q : j ≡ d = eqb-true j d t in
        record {
          which = i;
          earlier = omega arith;
          long = omega (arith, long);
          end_is = ap (λ (x : ℕ). (open_at stack' (suc x)).end) q ∙ ap (λ (x : OpenRoute). x.end) top;
        })
        (λ (t : eqb j d ≡ false).
        let ne : (j ≡ d → ⊥) = eqb-false j d t in
        let q = o.held j (omega arith) in
        record {
          which = q.which;
          earlier = omega (arith, q.earlier);
          long = q.long;
          end_is = ap (λ (x : OpenRoute). x.end) (below (suc j) (λ e. ne (omega arith))) ∙ q.end_is;
        })
        (way (eqb j d))

    sees_pushed : (a : ℕ) → at ≤ a → last_match w R (suc i) a ≡ look stack' (suc d) a
    unfolding look last_match
    sees_pushed a k =
        rw (matches_within w (R i).value (R i).len a, top, look_set stack here_open d d a (omega arith), le-leb (first w (R i).value (R i).len) a (omega (arith, begun, first_is o.valid i here)), o.sees a k)
        refl

    pub open_pushed : Open w R n (set stack (d + 1) here_open) (d + 1) (i + 1) at
    open_pushed = rw (add-one d, add-one i) (record {
      valid = o.valid;
      taken = omega (arith, here);
      deep = omega (arith, stack_room);
      size = length-set stack (suc d) here_open ∙ o.size;
      whole = below 0 (λ e. omega arith) ∙ o.whole;
      held = holds;
      sees = sees_pushed;
    })

  -- what the open routes give an address before the innermost has ended
  look_top : (stack : List OpenRoute) (d i at a : ℕ) → Open w R n stack d i at → a ≤ (open_at stack d).end → look stack d a ≡ (open_at stack d).port
  unfolding look
  look_top stack zero i at a o h = sym (ap (λ (x : OpenRoute). x.port) o.whole)
  look_top stack (suc d) i at a o h = rw (le-leb a (open_at stack (suc d)).end h) refl

  -- up to the end of the innermost, and before the next begins, there is one port
  pub open_port : (stack : List OpenRoute) (d i at a : ℕ) → Open w R n stack d i at → at ≤ a → a ≤ (open_at stack d).end → (i < n → a < (R i).value)
      → scan_of w R n a ≡ (open_at stack d).port
  open_port stack d i at a o h e s =
      let z : i + (n - i) ≡ n = omega (arith, o.taken) in
      scan_is_last w R n a o.valid ∙ ap (λ (k : ℕ). last_match w R k a) (sym z)
      ∙ later_none o.valid i a s (n - i) (omega (arith, o.taken)) ∙ o.sees a h ∙ look_top stack d i at a o e

  -- and they tell it from any later address on
  pub open_on : (stack : List OpenRoute) (d i at to : ℕ) → Open w R n stack d i at → at ≤ to → Open w R n stack d i to
  open_on stack d i at to o h = record {
    valid = o.valid;
    taken = o.taken;
    deep = o.deep;
    size = o.size;
    whole = o.whole;
    held = o.held;
    sees = λ a k. o.sees a (omega arith);
  }
