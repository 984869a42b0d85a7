-- How far the listing is counted and written, and how it goes on, for any port f of m addresses. Assumes nothing.
use mathlib.Core.Path.{◌≡◌, refl, sym, ap, ap₂, ◌∙◌}
use mathlib.Core.Logic.{⊎_elim}
use mathlib.Core.Bool.{Bool, true, false, cond}
use mathlib.Core.List.{List, [], ◌∷◌, ◌++◌}
use Prim.Native.Nat.{ℕ, zero, suc, ◌+◌, ◌-◌, ◌*◌, ◌≤◌, ◌<◌}
use native.Mathlib.Omega.{arith}
use native.Mathlib.Nat.{sub-zero}
use lib.Dec.{eqb, leb}
use lib.ListN.{length, take, drop, length-drop, take-append-drop}
use lib.Seq.{drop-drop, take-add, length-take-le}
use borrow.Author.Tests.{eqb-true, eqb-false, le-leb, lt-leb, leb-true, leb-false}
use Rattle.promise.specs.Over.{over, store_three}
use Rattle.promise.proofs.Over.{over_three}
use Rattle.lists.proofs.Tests.{way, neither}
use Rattle.lists.proofs.Flat.{flat_append}
use Rattle.runs_rules.specs.Runs.{words_of_run, Run, run, runs_from, runs, run_size, run_words}
use Rattle.runs_rules.specs.Theorems.{most_runs}
use Rattle.runs_rules.proofs.Runs.{runs_from_to, runs_from_other, runs_from_all}
use Rattle.runs_rules.proofs.Listing.{length_run_words}
use Rattle.runs_write.specs.Sweep.{open_run, stays, turned, turned_left, gone_on, gone_on_left}
use Rattle.runs_write.specs.Needs.{RoomFor, Ended, Turned, GoneOn, Swept}
use Rattle.runs_write.specs.declared.sweep.OpenRun.{OpenRun}

-- one run more of a listing, where what is left is known
module _ (rs rest : List Run) (r : Run) (k : ℕ) (e : drop k rs ≡ r ∷ rest) where
  drop_next : drop (k + 1) rs ≡ rest
  drop_next = sym (drop-drop 1 k rs) ∙ ap (λ (l : List Run). drop 1 l) e

  take_next : take (k + 1) rs ≡ take k rs ++ (r ∷ [])
  take_next = take-add k 1 rs ∙ ap (λ (l : List Run). take k rs ++ take 1 l) e

  length_next : length rs ≡ k + 1 + length rest
  length_next = let l : length rs - k ≡ suc (length rest) = sym (length-drop k rs) ∙ ap length e in omega arith

  length_before : length (take k rs) ≡ k
  length_before = length-take-le k rs (omega (arith, length_next))

-- what is in the lent memory once the first k runs are counted: they, where they are written
abbrev pub left_after : List Run → Bool → ℕ → List ℕ → List ℕ
left_after rs write k lent = cond write (over (run_words (take k rs)) lent) lent

-- the next run's words
left_after_put : (rs rest : List Run) (write : Bool) (k first last port : ℕ) (lent : List ℕ)
    → drop k rs ≡ run first last port ∷ rest → (write ≡ true → length rs * run_size ≤ length lent)
    → cond write (store_three (left_after rs write k lent) (k * run_size) first last port) (left_after rs write k lent) ≡ left_after rs write (k + 1) lent
left_after_put rs rest false k first last port lent e room = refl
left_after_put rs rest true k first last port lent e room =
    let n = length_next rs rest (run first last port) k e in
    over_three (run_words (take k rs)) lent first last port (k * run_size)
    (length_run_words (take k rs) ∙ ap (λ (j : ℕ). j * run_size) (length_before rs rest (run first last port) k e))
    (omega (arith, n, room refl))
    ∙ ap (λ (ws : List ℕ). over ws lent)
    (sym (flat_append words_of_run (take k rs) (run first last port ∷ [])) ∙ ap run_words (sym (take_next rs rest (run first last port) k e)))

-- what is left to list is never nothing
runs_from_some : (f : ℕ → ℕ) (s c k : ℕ) → 0 < length (runs_from f s c k)
unfolding runs_from
runs_from_some f s c zero = omega arith
runs_from_some f s c (suc k) =
    ⊎_elim
    (λ (t : eqb (f c) (f s) ≡ true). rw t (runs_from_some f s (c + 1) k))
    (λ (t : eqb (f c) (f s) ≡ false). rw t (omega arith))
    (way (eqb (f c) (f s)))

-- a run that ends has an address
pub turned_begun : (r : OpenRun) (port : ℕ) → stays r port ≡ false → 0 < r.next
turned_begun r port t =
    let ne : (r.next ≡ 0 → ⊥) = eqb-false r.next 0 (neither (eqb r.next 0) (eqb port r.port) t).0 in omega arith

-- what turning to a port and going on to it leave, from the code's tests and calls
module _ {lent : List ℕ} {write : Bool} {r : OpenRun} {port : ℕ} where
  pub turned_stays : stays r port ≡ true → Turned lent write r port (open_run r.first r.next port r.count) lent
  unfolding turned turned_left
  turned_stays t = record { run_is = rw t refl; written = rw t refl }

  pub turned_ends : stays r port ≡ false → {count : ℕ} {left : List ℕ}
      → Ended lent write r.count r.first (r.next - 1) r.port count left
      → Turned lent write r port (open_run r.next r.next port count) left
  unfolding turned turned_left
  turned_ends t put = record { run_is = rw (t, put.next_is_lem) refl; written = rw t put.written }

  pub gone_on_none : {to : ℕ} → to ≤ r.next → GoneOn lent write r to port r lent
  unfolding gone_on gone_on_left
  gone_on_none {to} h = record { run_is = rw (le-leb to r.next h) refl; written = rw (le-leb to r.next h) refl }

  pub gone_on_turned : {to : ℕ} → r.next < to → {t : OpenRun} {left : List ℕ} → Turned lent write r port t left
      → GoneOn lent write r to port (open_run t.first to port t.count) left
  unfolding gone_on gone_on_left
  gone_on_turned {to} h t = record { run_is = rw (lt-leb to r.next h, t.run_is) refl; written = rw (lt-leb to r.next h) t.written }

module _ (f : ℕ → ℕ) (m : ℕ) where
  -- the runs before the open one are counted, and written where that is asked; it has its port at all of its addresses
  pub record Counted (lent : List ℕ) (write : Bool) (left : List ℕ) (r : OpenRun) : Type 0 where
    pub first_le : r.first ≤ r.next
    pub some : 0 < r.next → r.first < r.next
    pub port_is : 0 < r.next → r.port ≡ f r.first
    pub rest : drop r.count (runs f m) ≡ runs_from f r.first r.next (m - r.next)
    pub same : length left ≡ length lent
    pub written : left ≡ left_after (runs f m) write r.count lent

  -- before any address
  pub counted_none : (lent : List ℕ) (write : Bool) (port : ℕ) → Counted lent write lent (open_run 0 0 port 0)
  unfolding runs
  counted_none lent write port = record {
    first_le = omega arith;
    some = λ h. absurd (omega arith);
    port_is = λ h. absurd (omega arith);
    rest = ap (λ (j : ℕ). runs_from f 0 0 j) (sym (sub-zero m));
    same = refl;
    written = nothing write;
  }
    where
      nothing : (write : Bool) → lent ≡ left_after (runs f m) write 0 lent
      nothing true = refl
      nothing false = refl

  module _ {lent left : List ℕ} {write : Bool} {r : OpenRun} (c : Counted lent write left r)
      (room : write ≡ true → length (runs f m) * run_size ≤ length lent) where
    -- the next run is written where that is asked
    written_next : {first last port : ℕ} {rest : List Run} → drop r.count (runs f m) ≡ run first last port ∷ rest → {left' : List ℕ}
        → left' ≡ cond write (store_three left (r.count * run_size) first last port) left → left' ≡ left_after (runs f m) write (r.count + 1) lent
    written_next {first} {last} {port} {rest} e put =
        put ∙ ap (λ (ws : List ℕ). cond write (store_three ws (r.count * run_size) first last port) ws) c.written
        ∙ left_after_put (runs f m) rest write r.count first last port lent e room

    -- where there is room for all runs, there is room for the open one
    pub room_next : length (runs f m) ≤ most_runs → RoomFor left write r.count
    room_next most =
        let l : 0 < length (runs f m) - r.count =
        rw (← length-drop r.count (runs f m), c.rest) (runs_from_some f r.first r.next (m - r.next)) in
        record { few = omega arith; room = λ t. omega (arith, room t, c.same) }

    -- the next addresses go to a port
    module _ (to here : ℕ) (more : r.next < to) (within : to ≤ m) (one : (x : ℕ) → r.next ≤ x → x < to → f x ≡ here) where
      -- which the open run has, or it has no address: it goes on
      counted_on_lem : stays r here ≡ true → Counted lent write left (open_run r.first to here r.count)
      counted_on_lem t = record {
        first_le = omega (arith, c.first_le);
        some = λ h. omega (arith, c.first_le);
        port_is = λ h. at_first;
        rest =
            c.rest
            ∙ runs_from_to f m r.first r.next to (omega arith) within (λ x u v. one x u v ∙ at_first);
        same = c.same;
        written = c.written;
      }
        where
          at_first : here ≡ f r.first
          at_first =
              ⊎_elim
              (λ (z : eqb r.next 0 ≡ true).
              let e = eqb-true r.next 0 z in sym (one r.first (omega (arith, c.first_le)) (omega (arith, c.first_le))))
              (λ (z : eqb r.next 0 ≡ false).
              let ne : (r.next ≡ 0 → ⊥) = eqb-false r.next 0 z in
              eqb-true here r.port (rw z at t) ∙ c.port_is (omega arith))
              (way (eqb r.next 0))

      -- which it does not have: it ends before them
      module _ (f-stays : stays r here ≡ false) where
        begun : 0 < r.next
        begun = turned_begun r here f-stays

        other : here ≡ r.port → ⊥
        other = eqb-false here r.port (neither (eqb r.next 0) (eqb here r.port) f-stays).1

        run_ends : drop r.count (runs f m) ≡ run r.first (r.next - 1) r.port ∷ runs_from f r.next to (m - to)
        run_ends =
            let z : m - r.next ≡ suc (m - (r.next + 1)) = omega arith in
            c.rest
            ∙ ap (λ (j : ℕ). runs_from f r.first r.next j) z
            ∙ runs_from_other f r.first r.next (m - (r.next + 1))
            (λ x. other (sym (one r.next (omega arith) more) ∙ x ∙ sym (c.port_is begun)))
            ∙ ap₂ (λ (q : ℕ) (rs : List Run). run r.first (r.next - 1) q ∷ rs) (sym (c.port_is begun))
            (runs_from_to f m r.next (r.next + 1) to (omega arith) within
            (λ x u v. one x (omega arith) v ∙ sym (one r.next (omega arith) more)))

        counted_ended : {left' : List ℕ} → left' ≡ cond write (store_three left (r.count * run_size) r.first (r.next - 1) r.port) left
            → length left' ≡ length left → Counted lent write left' (open_run r.next to here (r.count + 1))
        counted_ended put s = record {
          first_le = omega arith;
          some = λ h. more;
          port_is = λ h. sym (one r.next (omega arith) more);
          rest = drop_next (runs f m) (runs_from f r.next to (m - to)) (run r.first (r.next - 1) r.port) r.count run_ends;
          same = s ∙ c.same;
          written = written_next run_ends put;
        }

      -- so it turns to them
      pub counted_turned : {left' : List ℕ} → left' ≡ turned_left write left r here → length left' ≡ length left
          → Counted lent write left' (open_run (turned r here).first to here (turned r here).count)
      unfolding turned turned_left
      counted_turned {left'} put s =
          ⊎_elim
          (λ (t : stays r here ≡ true).
          let e : left' ≡ left = rw t at put in rw (t, e) (counted_on_lem t))
          (λ (t : stays r here ≡ false). rw t (counted_ended t (rw t at put) s))
          (way (stays r here))

    -- the next addresses, as far as it does not have them
    pub counted_gone_on : (to here : ℕ) → to ≤ m → ((x : ℕ) → r.next ≤ x → x < to → f x ≡ here) → {r' : OpenRun} {left' : List ℕ}
        → GoneOn left write r to here r' left' → length left' ≡ length left → Counted lent write left' r'
    unfolding gone_on gone_on_left
    counted_gone_on to here within one {r'} {left'} g s =
        ⊎_elim
        (λ (t : leb to r.next ≡ true).
        let e : left' ≡ left = rw t at g.written in
        let i : r' ≡ r = rw t at g.run_is in
        rw (e, i) c)
        (λ (t : leb to r.next ≡ false).
        let i : r' ≡ open_run (turned r here).first to here (turned r here).count = rw t at g.run_is in
        rw i (counted_turned to here (leb-false to r.next t) within one (rw t at g.written) s))
        (way (leb to r.next))

    -- the open run is the last
    module _ (full : r.next ≡ m) (any : 0 < m) where
      run_last : drop r.count (runs f m) ≡ run r.first (m - 1) r.port ∷ []
      run_last =
          c.rest ∙ runs_from_all f r.first r.next (m - r.next) (omega arith)
          ∙ ap₂ (λ (l q : ℕ). run r.first (l - 1) q ∷ []) full (sym (c.port_is (omega arith)))

      pub counted_all : {next : ℕ} {left' : List ℕ} → Ended left write r.count r.first (m - 1) r.port next left'
          → Swept (runs f m) write next lent left'
      counted_all put = record {
        counted = put.next_is_lem ∙ omega (arith, length_next (runs f m) [] (run r.first (m - 1) r.port) r.count run_last);
        written = written_next run_last put.written ∙ ap (λ (rs : List Run). cond write (over (run_words rs) lent) lent) all;
      }
        where
          all : take (r.count + 1) (runs f m) ≡ runs f m
          all =
              take_next (runs f m) [] (run r.first (m - 1) r.port) r.count run_last
              ∙ ap (λ (rs : List Run). take r.count (runs f m) ++ rs) (sym run_last)
              ∙ take-append-drop r.count (runs f m)

-- how far the open run has got
module _ {lent left : List ℕ} {write : Bool} {r r' : OpenRun} {to here : ℕ} (g : GoneOn lent write r to here r' left) where
  abbrev Far : Type 0
  Far = (r.next ≤ r'.next) × (to ≤ r'.next) × ((bound : ℕ) → r.next ≤ bound → to ≤ bound → r'.next ≤ bound)

  pub gone_on_next : Far
  unfolding gone_on
  gone_on_next =
      ⊎_elim
      (λ (t : leb to r.next ≡ true).
      let i : r' ≡ r = rw t at g.run_is in
      let e = ap (λ (x : OpenRun). x.next) i in
      let l = leb-true to r.next t in
      (omega arith, omega arith, λ b h k. omega arith))
      (λ (t : leb to r.next ≡ false).
      let i : r' ≡ open_run (turned r here).first to here (turned r here).count = rw t at g.run_is in
      let e = ap (λ (x : OpenRun). x.next) i in
      let l = leb-false to r.next t in
      (omega arith, omega arith, λ b h k. omega arith))
      (way (leb to r.next))
