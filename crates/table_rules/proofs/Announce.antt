-- A route that sinks in rows that hold a trie inserts it into the trie; places keep their rows, and the new one gets row n.
-- Assumes nothing.
use mathlib.Core.Path.{◌≡◌, refl, sym, ap, ap₂, ◌∙◌, subst}
use mathlib.Core.Bool.{Bool, true, false, cond, not}
use mathlib.Core.List.{[], ◌∷◌, ◌++◌}
use Prim.Native.Nat.{ℕ, zero, suc, ◌+◌, ◌-◌, ◌<◌, ◌≤◌}
use native.Mathlib.Omega.{arith}
use lib.ListN.{length, length-append}
use borrow.Author.Tests.{eq-eqb, ne_eqb}
use Rattle.bits.specs.Bits.{Bits, prefix_bits, same, bit_before}
use Rattle.bits.proofs.Bits.{same_eq}
use Rattle.trie.specs.Trie.{Trie, leaf, node, outranks}
use Rattle.trie.specs.Update.{down, insert, grows}
use Rattle.trie.proofs.Insert.{lower_not_nil}
use Rattle.routes.specs.Routes.{ValidRoute}
use Rattle.routes.specs.declared.Route.{Route}
use Rattle.table_rules.specs.Rows.{Mem, Layout, Stores, child, route_of, leaf_row, with_route, with_child}
use Rattle.table_rules.specs.Holds.{Names, Holds, hit, times}
use Rattle.table_rules.specs.Announce.{is_same, outranks_row, sink_by, sink}
use Rattle.table_rules.specs.declared.Row.{Row}
use Rattle.table_rules.proofs.Paths.{At, at_bit, at_down, at_last, at_same, at_over}
use Rattle.table_rules.proofs.Holds.{hit_same, row_at, Below, below_root, below_child, times_child}
use Rattle.table_rules.proofs.Frame.{Agree, times_frame, holds_frame, Unique, SideChanged, side_holds, side_times, unique_child, root_not_below, below_not_root, sides_apart}

-- a valid route whose prefix is the path and then y
pub record RouteAt (w : ℕ) (path : Bits) (q : Route) (y : Bits) : Type 0 where
  pub valid : ValidRoute w q
  pub is : prefix_bits w q.value q.len ≡ path ++ y

pub at_of : (w : ℕ) (path : Bits) (q : Route) (y : Bits) → RouteAt w path q y → At w path q.value q.len y
at_of w path q y h = record { valid = h.valid.prefix; is = h.is }

pub route_down : (w : ℕ) (path : Bits) (q : Route) (b : Bool) (y : Bits) → RouteAt w path q (b ∷ y) → RouteAt w (path ++ (b ∷ [])) q y
route_down w path q b y h =
    record { valid = h.valid; is = (at_down w path q.value q.len b y (at_of w path q (b ∷ y) h)).is }

pub route_row : (w : ℕ) (M : Mem) (path : Bits) (r : ℕ) (s : Bits) (p : ℕ) (c : Bool → Trie) → Holds w M path r (node s p c)
    → RouteAt w path (route_of (M r)) s
route_row w M path r s p c h = record { valid = h.valid; is = h.bits }

pub route_if : (w : ℕ) (path : Bits) (o : Bool) (q x : Route) (y s : Bits) → RouteAt w path q y → RouteAt w path x s
    → RouteAt w path (cond o q x) (cond o y s)
route_if w path true q x y s h k = h
route_if w path false q x y s h k = k

-- of two prefixes the one to hold the place stays, and the other goes down
insert_split : (y s : Bits) (q x : Route) (c : Bool → Trie) (o : Bool) → same y s ≡ false → outranks y s ≡ o
    → insert y q.port (node s x.port c)
    ≡ node (cond o y s) (cond o q x).port (λ d. down d (cond o s y) (c d) (λ z. insert z (cond o x q).port (c d)))
insert_split y s q x c true e f = rw (e, f)
insert_split y s q x c false e f = rw (e, f)

insert_named : (c : ℕ) (y : Bits) (p : ℕ) (t : Trie) → 0 < c → Names c (insert y p t)
insert_named c y p leaf h = h
insert_named c y p (node s o k) h = go (same y s) (outranks y s)
  where
    go : (a b : Bool)
        → Names c
        (cond a (node s p k)
        (cond b (node y p (λ d. down d s (k d) (λ z. insert z o (k d)))) (node s o (λ d. down d y (k d) (λ z. insert z p (k d))))))
    go true b = h
    go false true = h
    go false false = h

pub down_own : (b : Bool) (y : Bits) (t : Trie) (f : Bits → Trie) → down b (b ∷ y) t f ≡ f y
down_own true y t f = refl
down_own false y t f = refl

pub down_other : (b : Bool) (y : Bits) (t : Trie) (f : Bits → Trie) → down (not b) (b ∷ y) t f ≡ t
down_other true y t f = refl
down_other false y t f = refl

pub with_own : (x : Row) (b : Bool) (c : ℕ) → child (with_child x b c) b ≡ c
with_own x true c = refl
with_own x false c = refl

pub with_other : (x : Row) (b : Bool) (c : ℕ) → child (with_child x b c) (not b) ≡ child x (not b)
with_other x true c = refl
with_other x false c = refl

pub route_keeps : (x : Row) (q : Route) (b : Bool) → child (with_route x q) b ≡ child x b
route_keeps x q true = refl
route_keeps x q false = refl

-- the route of a row with another child
pub with_route_lem : (x : Row) (b : Bool) (c : ℕ) → route_of (with_child x b c) ≡ route_of x
with_route_lem x b c = refl

module _ {S : Type 0} (L : Layout S) (w : ℕ) (st : Stores w L) where
  -- the rows from r on held t, and hold it with the route in it
  pub record Grown (s s' : S) (path : Bits) (n r : ℕ) (t : Trie) (y : Bits) (p : ℕ) : Type 0 where
    pub holds : Holds w (L.get s') path r (insert y p t)
    pub reached : (i : ℕ) → times (L.get s') r (insert y p t) i ≡ times (L.get s) r t i + cond (grows y t) (hit n i) 0
    pub frame : (i : ℕ) → times (L.get s) r t i ≡ 0 → (grows y t ≡ true → i ≡ n → ⊥) → L.get s' i ≡ L.get s i
    pub rooms : L.room s' ≡ L.room s

  abbrev Grows : Trie → Type 0
  Grows leaf = Unit {0}
  Grows (node s p c) =
      (k : ℕ) (path : Bits) (m : S) (n r : ℕ) (q : Route) (y : Bits) → length path + k ≡ w → RouteAt w path q y
      → Holds w (L.get m) path r (node s p c) → Unique (L.get m) r (node s p c) → Below (L.get m) r (node s p c) n → 0 < n → n ≤ L.room m
      → (grows y (node s p c) ≡ true → n < L.room m) → Grown m (sink L w k m n r q) path n r (node s p c) y q.port

  module _ (s : Bits) (p : ℕ) (c : Bool → Trie) (path : Bits) (m : S) (n r : ℕ) (q : Route) (y : Bits) (at : RouteAt w path q y)
      (h : Holds w (L.get m) path r (node s p c)) (once : Unique (L.get m) r (node s p c)) (low : Below (L.get m) r (node s p c) n)
      (pos : 0 < n) (lies : n ≤ L.room m) (fits : grows y (node s p c) ≡ true → n < L.room m) where
    abbrev x : Row
    x = L.get m r

    r_lt : r < n
    r_lt = below_root (L.get m) r s p c n low

    r_fits : r < L.room m
    r_fits = omega (arith, r_lt)

    -- a row below a child is neither r nor n
    not_r : (b : Bool) (i : ℕ) → 0 < times (L.get m) (child x b) (c b) i → i ≡ r → ⊥
    not_r = below_not_root (L.get m) r s p c once

    not_n : (b : Bool) (i : ℕ) → 0 < times (L.get m) (child x b) (c b) i → i ≡ n → ⊥
    not_n b i k e = let z : i < n = below_child (L.get m) r s p c n b low i k in omega arith

    -- the prefix is held: its row gets the new port
    grown_same : same y s ≡ true → Grown m (L.put m r (with_route x q)) path n r (node s p c) y q.port
    grown_same e =
        let M' : Mem = L.get (L.put m r (with_route x q)) in
        let row : with_route x q ≡ M' r = sym (st.get_same m r (with_route x q) r_fits at.valid.prefix.fits) in
        let agree : ((b : Bool) → Agree (L.get m) M' (child x b) (c b)) =
        (λ b i k. st.get_other m r i (with_route x q) (not_r b i k)) in
        let new : Holds w M' path r (node s q.port c) = record {
          valid = subst (λ (z : Row). ValidRoute w (route_of z)) row at.valid;
          bits = subst (λ (z : Row). prefix_bits w z.value z.len ≡ path ++ s) row (at.is ∙ ap (λ (z : Bits). path ++ z) (same_eq y s e));
          port = sym (ap (λ (z : Row). z.port) row);
          below = λ b.
              subst (λ (j : ℕ). Names j (c b) × Holds w M' (path ++ (b ∷ [])) j (c b))
              (sym (route_keeps x q b) ∙ ap (λ (z : Row). child z b) row)
              ((h.below b).0, holds_frame (L.get m) M' w (path ++ (b ∷ [])) (child x b) (c b) (agree b) (h.below b).1);
        } in
        let side : ((b : Bool) (i : ℕ) → times M' (child (M' r) b) (c b) i ≡ times (L.get m) (child x b) (c b) i) =
        (λ b i.
        ap (λ (j : ℕ). times M' j (c b) i) (sym (ap (λ (z : Row). child z b) row) ∙ route_keeps x q b)
        ∙ times_frame (L.get m) M' (child x b) (c b) i (agree b)) in
        let is : node s q.port c ≡ insert y q.port (node s p c) = rw e in
        record {
          holds = subst (Holds w M' path r) is new;
          reached = λ i.
              let z : times M' r (node s q.port c) i ≡ times (L.get m) r (node s p c) i + 0 =
              omega (arith, side false i, side true i) in
              subst (λ (t : Trie). times M' r t i ≡ times (L.get m) r (node s p c) i + cond (grows y (node s p c)) (hit n i) 0) is (rw e z);
          frame = λ i none ne. st.get_other m r i (with_route x q) (λ g. omega (arith, hit_same r, ap (times (L.get m) r (node s p c)) g));
          rooms = st.room_put m r (with_route x q);
        }

    module _ (k : ℕ) (deep : length path + suc k ≡ w) (ih : (b : Bool) → Grows (c b)) (e : same y s ≡ false)
        (o : Bool) (v : outranks y s ≡ o) (b : Bool) (z : Bits) (goes : cond o s y ≡ b ∷ z) where
      -- U holds the place, and D goes down on side b
      abbrev U : Route
      U = cond o q (route_of x)

      abbrev D : Route
      D = cond o (route_of x) q

      upper : RouteAt w path U (cond o y s)
      upper = route_if w path o q (route_of x) y s at (route_row w (L.get m) path r s p c h)

      lower : RouteAt w path D (b ∷ z)
      lower = subst (RouteAt w path D) goes (route_if w path o (route_of x) q s y (route_row w (L.get m) path r s p c h) at)

      lower_bit : bit_before D.value k ≡ b
      lower_bit = at_bit w path D.value D.len k b z (at_of w path D (b ∷ z) lower) (sym deep)

      -- the children of the node once D is in
      abbrev kids : Bool → Trie
      kids d = down d (b ∷ z) (c d) (λ i. insert i D.port (c d))

      is_insert : insert y q.port (node s p c) ≡ node (cond o y s) U.port kids
      is_insert =
          ap (λ (j : ℕ). insert y q.port (node s j c)) (sym h.port)
          ∙ insert_split y s q (route_of x) c o e v
          ∙ ap (λ (g : Bits). node (cond o y s) U.port (λ d. down d g (c d) (λ i. insert i D.port (c d)))) goes

      is_grows : grows y (node s p c) ≡ grows z (c b)
      is_grows = rw (e, v, goes)

      -- put together from what became of side b
      put_together : (m' : S) (Y : Row) (c' : ℕ) → L.get m' r ≡ Y → route_of Y ≡ U → child Y b ≡ c' → child Y (not b) ≡ child x (not b)
          → 0 < c' → Holds w (L.get m') (path ++ (b ∷ [])) c' (insert z D.port (c b))
          → ((i : ℕ) → times (L.get m') c' (insert z D.port (c b)) i ≡ times (L.get m) (child x b) (c b) i + cond (grows z (c b)) (hit n i) 0)
          → Agree (L.get m) (L.get m') (child x (not b)) (c (not b))
          → ((i : ℕ) → times (L.get m) r (node s p c) i ≡ 0 → (grows y (node s p c) ≡ true → i ≡ n → ⊥) → L.get m' i ≡ L.get m i)
          → L.room m' ≡ L.room m
          → Grown m m' path n r (node s p c) y q.port
      put_together m' Y c' row route own other some holds count same-side frame rooms =
          let r-is : route_of (L.get m' r) ≡ U = ap route_of row ∙ route in
          let change : SideChanged w (L.get m) (L.get m') path r (cond o y s) U.port c kids b c' (insert z D.port (c b)) = record {
            valid = subst (ValidRoute w) (sym r-is) upper.valid;
            bits = ap (λ (g : Route). prefix_bits w g.value g.len) r-is ∙ upper.is;
            port = ap (λ (g : Route). g.port) r-is;
            own = ap (λ (g : Row). child g b) row ∙ own;
            named = insert_named c' z D.port (c b) some;
            holds = holds;
            own_is = down_own b z (c b) (λ i. insert i D.port (c b));
            other = ap (λ (g : Row). child g (not b)) row ∙ other;
            other_is = down_other b z (c (not b)) (λ i. insert i D.port (c (not b)));
            other_same = same-side;
          } in
          record {
            holds =
                subst (Holds w (L.get m') path r) (sym is_insert)
                (side_holds w (L.get m) (L.get m') path r s (cond o y s) p U.port c kids b c' (insert z D.port (c b)) h change);
            reached = λ i.
                let t : times (L.get m') r (node (cond o y s) U.port kids) i ≡ times (L.get m) r (node s p c) i + cond (grows z (c b)) (hit n i) 0 =
                omega (arith, side_times w (L.get m) (L.get m') path r s (cond o y s) p U.port c kids b c' (insert z D.port (c b)) h change i, count i) in
                ap (λ (g : Trie). times (L.get m') r g i) is_insert ∙ t
                ∙ ap (λ (g : Bool). times (L.get m) r (node s p c) i + cond g (hit n i) 0) (sym is_grows);
            frame = frame;
            rooms = rooms;
          }

      -- no row on side b: D gets row n
      grown_leaf : c b ≡ leaf
          → Grown m (L.put (L.put m r (with_child (with_route x U) b n)) n (leaf_row D)) path n r (node s p c) y q.port
      grown_leaf cb =
          let Y : Row = with_child (with_route x U) b n in
          let m₁ : S = L.put m r Y in
          let m' : S = L.put m₁ n (leaf_row D) in
          let new : grows y (node s p c) ≡ true = is_grows ∙ ap (grows z) cb in
          let n-fits : n < L.room m₁ = rw (st.room_put m r Y) (fits new) in
          let at_n : L.get m' n ≡ leaf_row D = st.get_same m₁ n (leaf_row D) n-fits lower.valid.prefix.fits in
          let at-r : L.get m' r ≡ Y = st.get_other m₁ n r (leaf_row D) (λ g. omega (arith, r_lt)) ∙ st.get_same m r Y r_fits upper.valid.prefix.fits in
          let down-at : RouteAt w (path ++ (b ∷ [])) D z = route_down w path D b z lower in
          let leafs : Holds w (L.get m') (path ++ (b ∷ [])) n (node z D.port (λ d. leaf)) = record {
            valid = subst (λ (g : Row). ValidRoute w (route_of g)) (sym at_n) down-at.valid;
            bits = ap (λ (g : Row). prefix_bits w g.value g.len) at_n ∙ down-at.is;
            port = ap (λ (g : Row). g.port) at_n;
            below = λ d. (ap (λ (g : Row). child g d) at_n ∙ no_child d, tt);
          } in
          let none : ((i : ℕ) → times (L.get m) (child x b) (c b) i ≡ 0) = (λ i. ap (λ (t : Trie). times (L.get m) (child x b) t i) cb) in
          put_together m' Y n at-r refl (with_own (with_route x U) b n) (with_other (with_route x U) b n ∙ route_keeps x U (not b)) pos
          (subst (λ (t : Trie). Holds w (L.get m') (path ++ (b ∷ [])) n (insert z D.port t)) (sym cb) leafs)
          (λ i.
          ap (λ (t : Trie). times (L.get m') n (insert z D.port t) i) cb
          ∙ (let g : hit n i + (0 + 0) ≡ 0 + hit n i = omega arith in g)
          ∙ ap₂ (λ (j : ℕ) (f : Bool). j + cond f (hit n i) 0) (sym (none i)) (sym (ap (grows z) cb)))
          (λ i g. st.get_other m₁ n i (leaf_row D) (not_n (not b) i g) ∙ st.get_other m r i Y (not_r (not b) i g))
          (λ i g ne. st.get_other m₁ n i (leaf_row D) (ne new)
          ∙ st.get_other m r i Y (λ f. omega (arith, hit_same r, ap (times (L.get m) r (node s p c)) f)))
          (st.room_put m₁ n (leaf_row D) ∙ st.room_put m r Y)
        where
          no_child : (d : Bool) → child (leaf_row D) d ≡ 0
          no_child true = refl
          no_child false = refl

      -- a row on side b: D sinks on from there
      grown_node : 0 < child x b
          → Grown (L.put m r (with_route x U)) (sink L w k (L.put m r (with_route x U)) n (child x b) D) (path ++ (b ∷ [])) n (child x b) (c b) z D.port
          → Grown m (sink L w k (L.put m r (with_route x U)) n (child x b) D) path n r (node s p c) y q.port
      grown_node some g =
          let Y : Row = with_route x U in
          let m₁ : S = L.put m r Y in
          let m' : S = sink L w k m₁ n (child x b) D in
          let agree : ((d : Bool) → Agree (L.get m) (L.get m₁) (child x d) (c d)) = (λ d i f. st.get_other m r i Y (not_r d i f)) in
          let count : ((i : ℕ) → times (L.get m₁) (child x b) (c b) i ≡ times (L.get m) (child x b) (c b) i) =
          (λ i. times_frame (L.get m) (L.get m₁) (child x b) (c b) i (agree b)) in
          put_together m' Y (child x b)
          (g.frame r (count r ∙ root_not_below (L.get m) r s p c once b) (λ _ f. omega (arith, r_lt)) ∙ st.get_same m r Y r_fits upper.valid.prefix.fits)
          refl (route_keeps x U b) (route_keeps x U (not b)) some g.holds
          (λ i. g.reached i ∙ ap (λ (j : ℕ). j + cond (grows z (c b)) (hit n i) 0) (count i))
          (λ i f. g.frame i (count i ∙ sides_apart (L.get m) r s p c once b i f) (λ _. not_n (not b) i f) ∙ agree (not b) i f)
          (λ i f ne.
          g.frame i (count i ∙ (let j : times (L.get m) (child x b) (c b) i ≡ 0 = omega (arith, times_child (L.get m) r s p c b i) in j)) (λ e. ne (is_grows ∙ e))
          ∙ st.get_other m r i Y (λ d. omega (arith, hit_same r, ap (times (L.get m) r (node s p c)) d)))
          (g.rooms ∙ st.room_put m r Y)

      abbrev stepped : Bool → S
      stepped d = sink_by L w m n r U D d (λ m' j. sink L w k m' n j D)

      grown_by : (t : Trie) → c b ≡ t → Grows t → Grown m (stepped b) path n r (node s p c) y q.port
      grown_by leaf cb g =
          let none : child x b ≡ 0 = subst (Names (child x b)) cb (h.below b).0 in
          subst (λ (j : S). Grown m j path n r (node s p c) y q.port) (sym (rw (eq-eqb (child x b) 0 none))) (grown_leaf cb)
      grown_by (node s₁ p₁ c₁) cb g =
          let some : 0 < child x b = subst (Names (child x b)) cb (h.below b).0 in
          let Y : Row = with_route x U in
          let m₁ : S = L.put m r Y in
          let agree : Agree (L.get m) (L.get m₁) (child x b) (c b) = (λ i f. st.get_other m r i Y (not_r b i f)) in
          let deeper : length (path ++ (b ∷ [])) + k ≡ w = omega (arith, length-append path (b ∷ []), deep) in
          let held : Holds w (L.get m₁) (path ++ (b ∷ [])) (child x b) (c b) =
          holds_frame (L.get m) (L.get m₁) w (path ++ (b ∷ [])) (child x b) (c b) agree (h.below b).1 in
          let count : ((i : ℕ) → times (L.get m₁) (child x b) (c b) i ≡ times (L.get m) (child x b) (c b) i) =
          (λ i. times_frame (L.get m) (L.get m₁) (child x b) (c b) i agree) in
          let one : Unique (L.get m₁) (child x b) (c b) = (λ i. omega (arith, count i, unique_child (L.get m) r s p c once b i)) in
          let few : Below (L.get m₁) (child x b) (c b) n =
          (λ i f. below_child (L.get m) r s p c n b low i (omega (arith, count i))) in
          let grown : Grown m₁ (sink L w k m₁ n (child x b) D) (path ++ (b ∷ [])) n (child x b) (c b) z D.port =
          subst (λ (t : Trie). Grown m₁ (sink L w k m₁ n (child x b) D) (path ++ (b ∷ [])) n (child x b) t z D.port) (sym cb)
          (g k (path ++ (b ∷ [])) m₁ n (child x b) D z deeper (route_down w path D b z lower)
          (subst (Holds w (L.get m₁) (path ++ (b ∷ [])) (child x b)) cb held)
          (subst (Unique (L.get m₁) (child x b)) cb one)
          (subst (λ (t : Trie). Below (L.get m₁) (child x b) t n) cb few)
          pos (rw (st.room_put m r Y) lies) (λ f. rw (st.room_put m r Y) (fits (is_grows ∙ ap (grows z) cb ∙ f)))) in
          subst (λ (j : S). Grown m j path n r (node s p c) y q.port) (sym (rw (ne_eqb (child x b) 0 (λ f. omega arith)))) (grown_node some grown)

      grown_down : Grown m (stepped (bit_before D.value k)) path n r (node s p c) y q.port
      grown_down =
          subst (λ (d : Bool). Grown m (stepped d) path n r (node s p c) y q.port) (sym lower_bit) (grown_by (c b) refl (ih b))

  module _ (s : Bits) (p : ℕ) (c : Bool → Trie) (ih : (b : Bool) → Grows (c b)) where
    grow_node : Grows (node s p c)
    unfolding sink
    grow_node zero path m n r q y deep at h once low pos lies fits =
        let e : same y s ≡ true =
        at_last w path q.value q.len (L.get m r).value (L.get m r).len y s deep (at_of w path q y at) (row_at w (L.get m) path r s p c h) in
        let t : is_same q (L.get m r) ≡ true =
        sym (at_same w path q.value q.len (L.get m r).value (L.get m r).len y s (at_of w path q y at) (row_at w (L.get m) path r s p c h)) ∙ e in
        subst (λ (j : S). Grown m j path n r (node s p c) y q.port) (sym (rw t)) (grown_same s p c path m n r q y at h once low pos lies fits e)
    grow_node (suc k) path m n r q y deep at h once low pos lies fits = by (same y s) refl
      where
        x : Row
        x = L.get m r

        D : Bool → Route
        D o = cond o (route_of x) q

        U : Bool → Route
        U o = cond o q (route_of x)

        is_same_lem : same y s ≡ is_same q x
        is_same_lem = at_same w path q.value q.len x.value x.len y s (at_of w path q y at) (row_at w (L.get m) path r s p c h)

        depth : w - suc k ≡ length path
        depth = omega arith

        outranks_row_lem : outranks y s ≡ outranks_row (w - suc k) q x
        outranks_row_lem =
            at_over w path q.value q.len x.value x.len y s (at_of w path q y at) (row_at w (L.get m) path r s p c h)
            ∙ ap (λ (d : ℕ). outranks_row d q x) (sym depth)

        pick_step : Bool → S
        pick_step o = sink_by L w m n r (U o) (D o) (bit_before (D o).value k) (λ m' j. sink L w k m' n j (D o))

        on : same y s ≡ false → (o : Bool) → outranks y s ≡ o → (d : Bits) → cond o s y ≡ d → (d ≡ [] → ⊥)
            → Grown m (pick_step o) path n r (node s p c) y q.port
        on e o v [] f ne = absurd (ne refl)
        on e o v (b ∷ z) f ne = grown_down s p c path m n r q y at h once low pos lies fits k deep ih e o v b z f

        by : (a : Bool) → same y s ≡ a
            → Grown m (cond (is_same q x) (L.put m r (with_route x q)) (pick_step (outranks_row (w - suc k) q x))) path n r (node s p c) y q.port
        by true e =
            subst (λ (j : S). Grown m j path n r (node s p c) y q.port) (sym (rw (sym is_same_lem ∙ e)))
            (grown_same s p c path m n r q y at h once low pos lies fits e)
        by false e =
            subst (λ (j : S). Grown m j path n r (node s p c) y q.port) (sym (rw (sym is_same_lem ∙ e)))
            (subst (λ (o : Bool). Grown m (pick_step o) path n r (node s p c) y q.port) outranks_row_lem
            (on e (outranks y s) refl (cond (outranks y s) s y) refl (lower_not_nil y s e)))

  grow : (t : Trie) → Grows t
  grow leaf = tt
  grow (node s p c) = grow_node s p c (λ b. grow (c b))

  -- a valid route that sinks from the root
  pub sink_grows : (s : Bits) (p : ℕ) (c : Bool → Trie) → Grows (node s p c)
  sink_grows s p c = grow (node s p c)
