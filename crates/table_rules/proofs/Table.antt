-- A table after an announcement or a withdrawal holds the trie of the changed set. Assumes nothing.
use mathlib.Core.Path.{◌≡◌, refl, sym, ap, ap₂, ◌∙◌, subst}
use mathlib.Core.Logic.{◌⊎◌, inl, inr, ⊎_elim}
use mathlib.Core.Bool.{Bool, true, false, cond, ◌&&◌, true≢false}
use mathlib.Core.List.{[], ◌∷◌, ◌++◌}
use Prim.Native.Nat.{ℕ, zero, suc, ◌+◌, ◌-◌, ◌<◌, ◌≤◌}
use native.Mathlib.Omega.{arith}
use lib.Pow.{pow_pos}
use lib.Dec.{eqb, ltb}
use lib.ListN.{length, length-append}
use borrow.Author.Tests.{eq-eqb, ne_eqb, eqb-true, eqb-false, lt-ltb, le-ltb, ltb-true, ltb-false}
use Rattle.bits.specs.Bits.{Bits, prefix_bits, same, bit_before}
use Rattle.bits.specs.Prefix.{Valid}
use Rattle.bits.proofs.Bits.{same_eq, same_refl}
use Rattle.lists.proofs.Tests.{way, both}
use Rattle.trie.specs.Routes.{Routes, upd, side}
use Rattle.trie.specs.Trie.{Trie, leaf, node, IsTrie, outranks}
use Rattle.trie.specs.Update.{insert, grows, remove}
use Rattle.trie.proofs.Routes.{upd_other}
use Rattle.trie.proofs.Order.{under_not_nil}
use Rattle.trie.proofs.Lookup.{top_none}
use Rattle.trie.proofs.Insert.{insert_is, grows_is}
use Rattle.trie.proofs.Remove.{own_out, remove_is}
use Rattle.routes.specs.Routes.{ValidRoute}
use Rattle.routes.specs.declared.Route.{Route}
use Rattle.table_rules.specs.Rows.{Mem, Layout, Stores, child, route_of, leaf_row}
use Rattle.table_rules.specs.Holds.{Names, Holds, hit, times, Placed}
use Rattle.table_rules.specs.Announce.{is_same, outranks_row, held_at, is_held, sink, announced}
use Rattle.table_rules.specs.Withdraw.{is_last, zero_row, Cut, cut, relink, move_row, close_gap, withdrawn}
use Rattle.table_rules.specs.Theorems.{HeldIs, Announced, AnnouncedIs, Withdrawn, WithdrawnIs}
use Rattle.table_rules.specs.declared.Row.{Row}
use Rattle.table_rules.proofs.Paths.{At, at_bit, at_down, at_last, at_same, at_over}
use Rattle.table_rules.proofs.Holds.{hit_same, hit_other, row_at, below_once, times_child}
use Rattle.table_rules.proofs.Frame.{Agree, times_frame, holds_frame}
use Rattle.table_rules.proofs.Announce.{Grown, sink_grows}
use Rattle.table_rules.proofs.Withdraw.{Shrunk, leaf_of_lem, cut_shrinks}
use Rattle.table_rules.proofs.Move.{Copied, Relinked, Moved, relink_moves}

-- a row below n, as a number
abbrev pub is_below : ℕ → ℕ → ℕ
is_below n i = cond (ltb i n) 1 0

below_yes : (n i : ℕ) → i < n → is_below n i ≡ 1
below_yes n i h = ap (λ (b : Bool). cond b 1 0) (lt-ltb i n h)

below_no : (n i : ℕ) → n ≤ i → is_below n i ≡ 0
below_no n i h = ap (λ (b : Bool). cond b 1 0) (le-ltb i n h)

below_suc : (n i : ℕ) → is_below (n + 1) i ≡ is_below n i + hit n i
below_suc n i = by (way (ltb i n)) (way (eqb i n))
  where
    by : (ltb i n ≡ true) ⊎ (ltb i n ≡ false) → (eqb i n ≡ true) ⊎ (eqb i n ≡ false) → is_below (n + 1) i ≡ is_below n i + hit n i
    by (inl h) e =
        let k : i < n = ltb-true i n h in
        let ne : (i ≡ n → ⊥) = (λ z. omega arith) in
        omega (arith, below_yes (n + 1) i (omega arith), below_yes n i k, hit_other n i ne)
    by (inr h) (inl e) =
        let k : i ≡ n = eqb-true i n e in
        omega (arith, below_yes (n + 1) i (omega arith), below_no n i (omega arith), ap (hit n) k, hit_same n)
    by (inr h) (inr e) =
        let k : n ≤ i = ltb-false i n h in
        let ne : (i ≡ n → ⊥) = eqb-false i n e in
        omega (arith, below_no (n + 1) i (omega arith), below_no n i k, hit_other n i ne)

below_le : (n i : ℕ) → is_below n i ≤ 1
below_le n i = go (ltb i n)
  where
    go : (b : Bool) → cond b 1 0 ≤ 1
    go true = omega arith
    go false = omega arith

module _ (w : ℕ) (M : Mem) (n : ℕ) (S : Routes) where
  -- the trie of an empty table is empty; any other one has a root
  leaf_empty : (t : Trie) → ((i : ℕ) → times M 0 t i ≡ is_below n i) → n ≡ 0 → t ≡ leaf
  leaf_empty leaf once z = refl
  leaf_empty (node s p c) once z = absurd (omega (arith, once 0, hit_same 0, below_no n 0 (omega arith)))

  node_some : (t : Trie) → ((i : ℕ) → times M 0 t i ≡ is_below n i) → t ≡ leaf → n ≡ 0
  node_some t once e =
      let z : (0 < n → ⊥) = (λ h. omega (arith, once 0, below_yes n 0 h, ap (λ (t : Trie). times M 0 t 0) e)) in omega arith

-- the search for a prefix

module _ (w : ℕ) (M : Mem) where
  abbrev FindsAt : Trie → Type 0
  FindsAt leaf = Unit {0}
  FindsAt (node s p c) =
      (k : ℕ) (path : Bits) (r : ℕ) (q : Route) (y : Bits) (T : Routes) → length path + k ≡ w → At w path q.value q.len y
      → Holds w M path r (node s p c) → IsTrie (node s p c) T → held_at w M k r q ≡ ltb 0 (T y)

  module _ (s : Bits) (p : ℕ) (c : Bool → Trie) (ih : (b : Bool) → FindsAt (c b)) (path : Bits) (r : ℕ) (q : Route) (y : Bits) (T : Routes)
      (at : At w path q.value q.len y) (h : Holds w M path r (node s p c)) (rule : IsTrie (node s p c) T) where
    abbrev x : Row
    x = M r

    is_same_lem : same y s ≡ is_same q x
    is_same_lem = at_same w path q.value q.len x.value x.len y s at (row_at w M path r s p c h)

    found_here : same y s ≡ true → true ≡ ltb 0 (T y)
    found_here e = sym (lt-ltb 0 (T y) (omega (arith, rule.some, rule.own, ap T (same_eq y s e))))

    not_here : T y ≡ 0 → false ≡ ltb 0 (T y)
    not_here e = sym (le-ltb 0 (T y) (omega arith))

    module _ (k : ℕ) (deep : length path + suc k ≡ w) (e : same y s ≡ false) where
      outranks_row_lem : outranks y s ≡ outranks_row (w - suc k) q x
      outranks_row_lem =
          let z : w - suc k ≡ length path = omega arith in
          at_over w path q.value q.len x.value x.len y s at (row_at w M path r s p c h) ∙ ap (λ (d : ℕ). outranks_row d q x) (sym z)

      abbrev on_side : Bool → Bool
      on_side b = cond (eqb (child x b) 0) false (held_at w M k (child x b) q)

      -- it is on the side of its next bit, or nowhere
      found_on : (b : Bool) (v : Bits) → y ≡ b ∷ v → on_side (bit_before q.value k) ≡ ltb 0 (T y)
      found_on b v f =
          let down : At w path q.value q.len (b ∷ v) = subst (At w path q.value q.len) f at in
          let z : side b (upd T s 0) v ≡ T y = ap (upd T s 0) (sym f) ∙ upd_other T s y 0 e in
          ap on_side (at_bit w path q.value q.len k b v down (sym deep)) ∙ by b v down z (c b) refl (ih b)
        where
          by : (b : Bool) (v : Bits) → At w path q.value q.len (b ∷ v) → side b (upd T s 0) v ≡ T y
              → (t : Trie) → c b ≡ t → FindsAt t → on_side b ≡ ltb 0 (T y)
          by b v down z leaf cb g =
              let none : child x b ≡ 0 = subst (Names (child x b)) cb (h.below b).0 in
              let empty : side b (upd T s 0) v ≡ 0 = subst (λ (t : Trie). IsTrie t (side b (upd T s 0))) cb (rule.rest b) v in
              rw (eq-eqb (child x b) 0 none) (not_here (sym z ∙ empty))
          by b v down z (node s₁ p₁ c₁) cb g =
              let pos : 0 < child x b = subst (Names (child x b)) cb (h.below b).0 in
              rw (ne_eqb (child x b) 0 (λ d. omega arith))
              (g k (path ++ (b ∷ [])) (child x b) q v (side b (upd T s 0)) (omega (arith, length-append path (b ∷ []), deep))
              (at_down w path q.value q.len b v down)
              (subst (Holds w M (path ++ (b ∷ [])) (child x b)) cb (h.below b).1)
              (subst (λ (t : Trie). IsTrie t (side b (upd T s 0))) cb (rule.rest b))
              ∙ ap (ltb 0) z)

      found_below : (o : Bool) → outranks y s ≡ o → cond o false (on_side (bit_before q.value k)) ≡ ltb 0 (T y)
      found_below true f = not_here (top_none T s rule.top y f)
      found_below false f = go y refl
        where
          go : (d : Bits) → y ≡ d → on_side (bit_before q.value k) ≡ ltb 0 (T y)
          go [] g = absurd (under_not_nil y s (λ z. true≢false (sym (rw z (same_refl s)) ∙ e)) f g)
          go (b ∷ v) g = found_on b v g

  finds_node : (s : Bits) (p : ℕ) (c : Bool → Trie) → ((b : Bool) → FindsAt (c b)) → FindsAt (node s p c)
  unfolding held_at
  finds_node s p c ih zero path r q y T deep at h rule =
      let e : same y s ≡ true =
      at_last w path q.value q.len (M r).value (M r).len y s deep at (row_at w M path r s p c h) in
      sym (is_same_lem s p c ih path r q y T at h rule) ∙ e ∙ found_here s p c ih path r q y T at h rule e
  finds_node s p c ih (suc k) path r q y T deep at h rule = by (same y s) refl
    where
      below : Bool → Bool
      below o = cond o false (cond (eqb (child (M r) (bit_before q.value k)) 0) false (held_at w M k (child (M r) (bit_before q.value k)) q))

      by : (a : Bool) → same y s ≡ a → cond (is_same q (M r)) true (below (outranks_row (w - suc k) q (M r))) ≡ ltb 0 (T y)
      by true e = rw (sym (is_same_lem s p c ih path r q y T at h rule) ∙ e) (found_here s p c ih path r q y T at h rule e)
      by false e =
          rw (sym (is_same_lem s p c ih path r q y T at h rule) ∙ e)
          (ap below (sym (outranks_row_lem s p c ih path r q y T at h rule k deep e))
          ∙ found_below s p c ih path r q y T at h rule k deep e (outranks y s) refl)

  finds : (t : Trie) → FindsAt t
  finds leaf = tt
  finds (node s p c) = finds_node s p c (λ b. finds (c b))

pub held_is : HeldIs
held_is w M n S q good ok = by good.trie good.rule good.holds good.once
  where
    y : Bits
    y = prefix_bits w q.value q.len

    by : (t : Trie) → IsTrie t S → Holds w M [] 0 t → ((i : ℕ) → times M 0 t i ≡ is_below n i) → is_held w M n q ≡ ltb 0 (S y)
    by leaf rule holds once =
        rw (eq-eqb n 0 (node_some w M n S leaf once refl)) (sym (le-ltb 0 (S y) (omega (arith, rule y))))
    by (node s p c) rule holds once =
        let some : (n ≡ 0 → ⊥) = (λ z. omega (arith, once 0, hit_same 0, below_no n 0 (omega arith))) in
        rw (ne_eqb n 0 some)
        (finds w M (node s p c) w [] 0 q y S (omega arith) (record { valid = ok; is = refl }) holds rule)

-- announcements

module _ (X : Type 0) (L : Layout X) (w : ℕ) (st : Stores w L)
    (m : X) (n : ℕ) (S : Routes) (q : Route) (ok : ValidRoute w q) (lies : n ≤ L.room m) where
  abbrev y : Bits
  y = prefix_bits w q.value q.len

  -- n as it becomes
  abbrev n' : ℕ
  n' = cond (eqb (S y) 0) (n + 1) n

  abbrev Result : Type 0
  Result = Announced w (L.get m) (L.get (announced L w m n q)) n S q

  announced_first : IsTrie leaf S → n ≡ 0 → 0 < L.room m → Result
  unfolding announced
  announced_first rule z fits =
      let M' : Mem = L.get (L.put m 0 (leaf_row q)) in
      let row : leaf_row q ≡ M' 0 = sym (st.get_same m 0 (leaf_row q) fits ok.prefix.fits) in
      let new : eqb (S y) 0 ≡ true = eq-eqb (S y) 0 (rule y) in
      let placed : Placed w M' 1 (upd S y q.port) = record {
        trie = insert y q.port leaf;
        rule = insert_is leaf S y q.port ok.some rule;
        holds = record {
          valid = subst (λ (x : Row). ValidRoute w (route_of x)) row ok;
          bits = sym (ap (λ (x : Row). prefix_bits w x.value x.len) row);
          port = sym (ap (λ (x : Row). x.port) row);
          below = λ b. (sym (ap (λ (x : Row). child x b) row) ∙ no_child b, tt);
        };
        once = λ i. (let g : hit 0 i + (0 + 0) ≡ is_below 1 i = omega (arith, below_suc 0 i, below_no 0 i (omega arith)) in g);
      } in
      rw (eq-eqb n 0 z)
      (record {
        placed = rw (new, z) placed;
        rest = λ i k ne. st.get_other m 0 i (leaf_row q) (λ e. ne (rule y) (e ∙ sym z));
      })
    where
      no_child : (b : Bool) → child (leaf_row q) b ≡ 0
      no_child true = refl
      no_child false = refl

  announced_more : (s : Bits) (p : ℕ) (c : Bool → Trie) → IsTrie (node s p c) S → Holds w (L.get m) [] 0 (node s p c)
      → ((i : ℕ) → times (L.get m) 0 (node s p c) i ≡ is_below n i) → (S y ≡ 0 → n < L.room m) → Result
  unfolding announced
  announced_more s p c rule holds once fits =
      let pos : 0 < n = by_root in
      let new : grows y (node s p c) ≡ eqb (S y) 0 = grows_is (node s p c) S y rule in
      let g : Grown L w st m (sink L w w m n 0 q) [] n 0 (node s p c) y q.port =
      sink_grows L w st s p c w [] m n 0 q y (omega arith) (record { valid = ok; is = refl }) holds
      (λ i. omega (arith, once i, below_le n i)) (below_once (L.get m) (node s p c) n once) pos lies
      (λ e. fits (eqb-true (S y) 0 (sym new ∙ e))) in
      rw (ne_eqb n 0 (λ z. omega arith))
      (record {
        placed = record {
          trie = insert y q.port (node s p c);
          rule = insert_is (node s p c) S y q.port ok.some rule;
          holds = g.holds;
          once = λ i. g.reached i ∙ ap₂ (λ (j : ℕ) (f : Bool). j + cond f (hit n i) 0) (once i) new ∙ count i (eqb (S y) 0);
        };
        rest = λ i k ne. g.frame i (once i ∙ below_no n i k) (λ e. ne (eqb-true (S y) 0 (sym new ∙ e)));
      })
    where
      by_root : 0 < n
      by_root = let z : (n ≡ 0 → ⊥) = (λ e. omega (arith, once 0, hit_same 0, below_no n 0 (omega arith))) in omega arith

      count : (i : ℕ) (f : Bool) → is_below n i + cond f (hit n i) 0 ≡ is_below (cond f (n + 1) n) i
      count i true = sym (below_suc n i)
      count i false = omega arith

pub announced_is : AnnouncedIs
announced_is X L w st m n S q good ok lies fits = by good.trie good.rule good.holds good.once
  where
    by : (t : Trie) → IsTrie t S → Holds w (L.get m) [] 0 t → ((i : ℕ) → times (L.get m) 0 t i ≡ is_below n i)
        → Announced w (L.get m) (L.get (announced L w m n q)) n S q
    by leaf rule holds once =
        let z : n ≡ 0 = node_some w (L.get m) n S leaf once refl in
        announced_first X L w st m n S q ok lies rule z (omega (arith, fits (rule (prefix_bits w q.value q.len))))
    by (node s p c) rule holds once = announced_more X L w st m n S q ok lies s p c rule holds once fits

-- withdrawals

below_pred : (n i : ℕ) → 0 < n → is_below n i ≡ is_below (n - 1) i + hit (n - 1) i
below_pred n i h = let z : n ≡ n - 1 + 1 = omega arith in ap (λ (j : ℕ). is_below j i) z ∙ below_suc (n - 1) i

module _ (X : Type 0) (L : Layout X) (w : ℕ) (st : Stores w L)
    (m : X) (n : ℕ) (S : Routes) (q : Route) (ok : Valid w q.value q.len) (lies : n ≤ L.room m)
    (live : 0 < S (prefix_bits w q.value q.len))
    (s : Bits) (p : ℕ) (c : Bool → Trie) (rule : IsTrie (node s p c) S) (holds : Holds w (L.get m) [] 0 (node s p c))
    (once : (i : ℕ) → times (L.get m) 0 (node s p c) i ≡ is_below n i) where
  abbrev q_bits : Bits
  q_bits = prefix_bits w q.value q.len

  q_at : At w [] q.value q.len q_bits
  q_at = record { valid = ok; is = refl }

  some : 0 < n
  some = let z : (n ≡ 0 → ⊥) = (λ e. omega (arith, once 0, hit_same 0, below_no n 0 (omega arith))) in omega arith

  -- a child names a row other than the root
  child_row : (b : Bool) → (c b ≡ leaf → ⊥) → (0 < child (L.get m 0) b) × (child (L.get m 0) b < n)
  child_row b ne = by (c b) refl
    where
      by : (t : Trie) → c b ≡ t → (0 < child (L.get m 0) b) × (child (L.get m 0) b < n)
      by leaf e = absurd (ne e)
      by (node s₁ p₁ c₁) e =
          let j : ℕ = child (L.get m 0) b in
          let k : 0 < times (L.get m) j (c b) j = rw e (omega (arith, hit_same j)) in
          (subst (Names j) e (holds.below b).0, below_once (L.get m) (node s p c) n once j (omega (arith, times_child (L.get m) 0 s p c b j)))

  -- a root without children is the only row
  alone : ((b : Bool) → c b ≡ leaf) → (i : ℕ) → is_below n i ≡ hit 0 i
  alone e i =
      sym (once i)
      ∙ ap₂ (λ (a b : ℕ). hit 0 i + (a + b))
      (ap (λ (t : Trie). times (L.get m) (L.get m 0).left t i) (e false))
      (ap (λ (t : Trie). times (L.get m) (L.get m 0).right t i) (e true))
      ∙ (let z : hit 0 i + (0 + 0) ≡ hit 0 i = omega arith in z)

  -- the last route goes: nothing is left
  withdrawn_last : n ≡ 1 → Withdrawn w (L.get m) (L.get (withdrawn L w m n q)) n S q
  unfolding withdrawn
  withdrawn_last one =
      let fits : 0 < L.room m = omega arith in
      let z : n - 1 ≡ 0 = omega arith in
      rw (le-ltb 1 n (omega arith))
      (record {
        placed = rw z (record {
          trie = leaf;
          rule = subst (λ (t : Trie). IsTrie t (upd S q_bits 0)) gone (remove_is (node s p c) S q_bits live rule);
          holds = tt;
          once = λ i. sym (below_no 0 i (omega arith));
        });
        last = rw z (st.get_same m 0 zero_row fits (pow_pos w));
        rest = λ i k. st.get_other m 0 i zero_row (λ e. omega arith);
      })
    where
      leafs : (b : Bool) → c b ≡ leaf
      leafs b = by (c b) refl
        where
          by : (t : Trie) → c b ≡ t → c b ≡ leaf
          by leaf e = e
          by (node s₁ p₁ c₁) e =
              let k = child_row b (λ f. node≢leaf (sym e ∙ f)) in absurd (omega (arith, k.0, k.1))
            where
              node≢leaf : node s₁ p₁ c₁ ≡ leaf → ⊥
              node≢leaf f = subst is_node f tt
                where
                  is_node : Trie → Type 0
                  is_node leaf = ⊥
                  is_node (node a b d) = Unit {0}

      is_root : (d : Bits) → q_bits ≡ d → same q_bits s ≡ true
      is_root d e = ⊎_elim (λ (t : same q_bits s ≡ true). t) (λ (t : same q_bits s ≡ false). absurd (out d e t)) (way (same q_bits s))
        where
          out : (d : Bits) → q_bits ≡ d → same q_bits s ≡ false → ⊥
          out [] f t = omega (arith, own_out S s rule.top, ap (upd S s 0) f, upd_other S s q_bits 0 t, live)
          out (b ∷ v) f t =
              let empty : upd S s 0 (b ∷ v) ≡ 0 = subst (λ (u : Trie). IsTrie u (side b (upd S s 0))) (leafs b) (rule.rest b) v in
              omega (arith, empty, ap (upd S s 0) f, upd_other S s q_bits 0 t, live)

      gone : remove q_bits (node s p c) ≡ leaf
      gone = rw (is_root q_bits refl, leafs false, leafs true)

  module _ (more : n ≡ 1 → ⊥) where
    abbrev last : ℕ
    last = n - 1

    -- the root is no leaf that holds the route
    not_last : is_last q (L.get m 0) ≡ false
    not_last = ⊎_elim (λ (t : is_last q (L.get m 0) ≡ true). absurd (by t)) (λ (t : is_last q (L.get m 0) ≡ false). t) (way (is_last q (L.get m 0)))
      where
        by : is_last q (L.get m 0) ≡ true → ⊥
        by t =
            let one = both (is_same q (L.get m 0) && eqb (L.get m 0).left 0) (eqb (L.get m 0).right 0) t in
            let two = both (is_same q (L.get m 0)) (eqb (L.get m 0).left 0) one.0 in
            let l : (L.get m 0).left ≡ 0 = eqb-true (L.get m 0).left 0 two.1 in
            let r : (L.get m 0).right ≡ 0 = eqb-true (L.get m 0).right 0 one.1 in
            let e : ((b : Bool) → c b ≡ leaf) = leafs l r in
            let ne : (last ≡ 0 → ⊥) = (λ z. omega (arith, some)) in
            omega (arith, alone e last, below_yes n last (omega (arith, some)), hit_other 0 last ne)
          where
            none : (b : Bool) → child (L.get m 0) b ≡ 0 → c b ≡ leaf
            none b z = leaf_of_lem (L.get m) (child (L.get m 0) b) (c b) (holds.below b).0 z

            leafs : (L.get m 0).left ≡ 0 → (L.get m 0).right ≡ 0 → (b : Bool) → c b ≡ leaf
            leafs l r false = none false l
            leafs l r true = none true r

    abbrev z : Cut X
    z = cut L w w m 0 q

    abbrev t' : Trie
    t' = remove q_bits (node s p c)

    pub shrunk : Shrunk L w st m z [] 0 (node s p c) q_bits
    shrunk =
        cut_shrinks L w st s p c w [] m 0 q q_bits S (omega arith) q_at holds (λ i. omega (arith, once i, below_le n i))
        (λ i k. omega (arith, below_once (L.get m) (node s p c) n once i k)) rule live not_last

    count : (i : ℕ) → times (L.get z.rows) 0 t' i + hit z.freed i ≡ is_below n i
    count i = shrunk.reached i ∙ once i

    freed_lt : z.freed < n
    freed_lt = ⊎_elim
        (λ (e : ltb z.freed n ≡ true). ltb-true z.freed n e)
        (λ (e : ltb z.freed n ≡ false). absurd (omega (arith, count z.freed, hit_same z.freed, below_no n z.freed (ltb-false z.freed n e))))
        (way (ltb z.freed n))

    -- Z has the rows of t' below n - 1
    ends : (Z : Mem) → Holds w Z [] 0 t' → ((i : ℕ) → times Z 0 t' i + hit last i ≡ is_below n i) → Placed w Z last (upd S q_bits 0)
    ends Z h k = record {
      trie = t';
      rule = remove_is (node s p c) S q_bits live rule;
      holds = h;
      once = λ i. omega (arith, k i, below_pred n i some);
    }

    -- the row that fell away was the last one
    withdrawn_same : z.freed ≡ last → Withdrawn w (L.get m) (L.get (L.put z.rows last zero_row)) n S q
    withdrawn_same e =
        let Z : Mem = L.get (L.put z.rows last zero_row) in
        let off : times (L.get z.rows) 0 t' last ≡ 0 =
        omega (arith, count last, ap (λ (j : ℕ). hit j last) e, hit_same last, below_yes n last (omega (arith, some))) in
        let agree : Agree (L.get z.rows) Z 0 t' =
        (λ i k. st.get_other z.rows last i zero_row (λ f. omega (arith, ap (times (L.get z.rows) 0 t') f, off))) in
        record {
          placed =
              ends Z (holds_frame (L.get z.rows) Z w [] 0 t' agree shrunk.holds)
              (λ i. ap₂ (λ (j d : ℕ). j + hit d i) (times_frame (L.get z.rows) Z 0 t' i agree) (sym e) ∙ count i);
          last = st.get_same z.rows last zero_row (rw shrunk.rooms (omega (arith, some))) (pow_pos w);
          rest = λ i k.
              st.get_other z.rows last i zero_row (λ f. omega (arith, some))
              ∙ shrunk.frame i (once i ∙ below_no n i k);
        }

    -- it was another: the last row moves there
    withdrawn_moved : (z.freed ≡ last → ⊥) → Withdrawn w (L.get m) (L.get (L.put (move_row L w z.rows last z.freed) last zero_row)) n S q
    withdrawn_moved ne = by t' refl
      where
        f : ℕ
        f = z.freed

        s' : X
        s' = relink L w w z.rows 0 (L.get z.rows last).value last f

        final : X
        final = L.put (L.put s' f (L.get s' last)) last zero_row

        by : (t : Trie) → t' ≡ t → Withdrawn w (L.get m) (L.get final) n S q
        by leaf e = absurd (omega (arith, subst (Names 1) e (shrunk.named 1 (omega arith))))
        by (node u o d) e =
            let M₁ : Mem = L.get z.rows in
            let k : ((i : ℕ) → times M₁ 0 (node u o d) i + hit f i ≡ is_below n i) =
            (λ i. ap (λ (t : Trie). times M₁ 0 t i + hit f i) (sym e) ∙ count i) in
            let root : f ≡ 0 → ⊥ = (λ g. omega (arith, k 0, hit_same 0, ap (λ (j : ℕ). hit j 0) g, below_le n 0)) in
            let pos : 0 < f = omega (arith, root) in
            let far : 0 ≡ last → ⊥ = (λ g. omega (arith, some)) in
            let rl : Relinked L w st z.rows last f pos ne s' [] 0 (node u o d) =
            relink_moves L w st z.rows last f pos ne u o d w [] 0 (omega arith)
            (subst (Holds w M₁ [] 0) e shrunk.holds)
            (λ i. omega (arith, k i, below_le n i))
            (λ i g. rw shrunk.rooms (omega (arith, from k i g)))
            (omega (arith, k last, hit_other f last (λ g. ne (sym g)), below_yes n last (omega (arith, some))))
            far
            (omega (arith, k f, hit_same f, below_le n f)) in
            let room-s : L.room s' ≡ L.room m = rl.rooms ∙ shrunk.rooms in
            let s'' : X = L.put s' f (L.get s' last) in
            let room-f : L.room s'' ≡ L.room m = st.room_put s' f (L.get s' last) ∙ room-s in
            let copied : Copied L w st z.rows last f pos ne (L.get final) s' = record {
              copy = st.get_other s'' last f zero_row ne ∙ st.get_same s' f (L.get s' last) (rw room-s (omega (arith, freed_lt))) rl.low;
              rest = λ i a b. st.get_other s'' last i zero_row b ∙ st.get_other s' f i (L.get s' last) a;
            } in
            let mv : Moved L w st z.rows last f pos ne (L.get final) [] 0 (node u o d) = rl.moved (L.get final) copied in
            record {
              placed =
                  ends (L.get final) (subst (Holds w (L.get final) [] 0) (sym e) mv.holds)
                  (λ i. ap (λ (t : Trie). times (L.get final) 0 t i + hit last i) e ∙ mv.reached i ∙ k i);
              last = st.get_same s'' last zero_row (rw room-f (omega (arith, some))) (pow_pos w);
              rest = λ i g.
                  st.get_other s'' last i zero_row (λ a. omega (arith, some))
                  ∙ st.get_other s' f i (L.get s' last) (λ a. omega (arith, freed_lt))
                  ∙ rl.frame i (let j : times M₁ 0 (node u o d) i ≡ 0 = omega (arith, k i, below_no n i g) in j)
                  ∙ shrunk.frame i (once i ∙ below_no n i g);
            }
          where
            from : ((i : ℕ) → times (L.get z.rows) 0 (node u o d) i + hit f i ≡ is_below n i) → (i : ℕ) → 0 < times (L.get z.rows) 0 (node u o d) i → i < n
            from k i g = ⊎_elim
                (λ (a : ltb i n ≡ true). ltb-true i n a)
                (λ (a : ltb i n ≡ false). absurd (omega (arith, k i, below_no n i (ltb-false i n a))))
                (way (ltb i n))

    withdrawn_more : Withdrawn w (L.get m) (L.get (withdrawn L w m n q)) n S q
    unfolding withdrawn close_gap
    withdrawn_more =
        rw (lt-ltb 1 n (omega (arith, some, more)))
        (⊎_elim
        (λ (e : eqb z.freed last ≡ true). rw (close_gap, e) (withdrawn_same (eqb-true z.freed last e)))
        (λ (e : eqb z.freed last ≡ false). rw (close_gap, e) (withdrawn_moved (eqb-false z.freed last e)))
        (way (eqb z.freed last)))

pub withdrawn_is : WithdrawnIs
withdrawn_is X L w st m n S q good ok lies live = by good.trie good.rule good.holds good.once
  where
    by : (t : Trie) → IsTrie t S → Holds w (L.get m) [] 0 t → ((i : ℕ) → times (L.get m) 0 t i ≡ is_below n i)
        → Withdrawn w (L.get m) (L.get (withdrawn L w m n q)) n S q
    by leaf rule holds once = absurd (omega (arith, rule (prefix_bits w q.value q.len), live))
    by (node s p c) rule holds once =
        ⊎_elim
        (λ (e : eqb n 1 ≡ true). withdrawn_last X L w st m n S q ok lies live s p c rule holds once (eqb-true n 1 e))
        (λ (e : eqb n 1 ≡ false). withdrawn_more X L w st m n S q ok lies live s p c rule holds once (eqb-false n 1 e))
        (way (eqb n 1))
