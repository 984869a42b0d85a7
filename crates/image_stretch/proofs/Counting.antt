-- One pass over a valid list counts the nodes of its image: the nodes below a node are counted by the routes of its stretch, each by
-- the last route of its own. Assumes nothing.
use mathlib.Core.Path.{◌≡◌, refl, sym, ap, ap₂, ◌∙◌, subst}
use mathlib.Core.Bool.{Bool, true, false, cond, true≢false}
use mathlib.Core.Logic.{◌⊎◌, inl, inr, ⊎_elim}
use mathlib.Core.List.{List, [], ◌∷◌, ◌++◌}
use Prim.Native.Nat.{ℕ, zero, suc, ◌+◌, ◌-◌, ◌*◌, ◌/◌, ◌^◌, ◌≤◌, ◌<◌}
use native.Mathlib.Omega.{arith}
use native.Mathlib.Nat.{zero-add, add-zero, add_assoc, suc-mul, mul_assoc}
use lib.Dec.{ltb}
use lib.ListN.{length, length-append}
use borrow.Author.Tests.{lt-ltb, le-ltb, eq-eqb, eqb-true, ltb-true}
use Rattle.bits.specs.Prefix.{span, head, matches}
use Rattle.lists.proofs.Tests.{way, both, test_no, lt_or_le}
use Rattle.bits.proofs.Prefix.{span_pos, start, head_within, span_deeper}
use Rattle.bits.proofs.Order.{precedes_value_le}
use Rattle.routes.specs.Routes.{ValidList}
use Rattle.lists.specs.Numbered.{list_of}
use Rattle.routes.specs.declared.Route.{Route}
use Rattle.lists.specs.Flat.{flat}
use Rattle.image_rules.specs.Breadth.{Slot, slot_children, children, levels}
use Rattle.image_rules.specs.Lookup.{Strided}
use Rattle.lists.proofs.Flat.{All}
use Rattle.image_rules.proofs.Numbering.{level_all}
use Rattle.image_rules.proofs.Image.{levels_pos}
use Rattle.image_stretch.specs.declared.Stretch.{Stretch}
use Rattle.image_stretch.specs.Stretches.{goes_on, slot_stretch, stretch_slot, stretch_slots, root_of, stretches}
use Rattle.image_stretch.specs.Count.{count_at, count_below, sum_of, nodes_count}
use Rattle.image_stretch.specs.Theorems.{CountIs}
use Rattle.image_stretch.proofs.Places.{Place}
use Rattle.image_stretch.proofs.Alikes.{last_longer}
use Rattle.image_stretch.proofs.Trees.{Stands, fits_of, below, below_place, below_within, slot_leaf, slot_on_lem, slots_below, root_stands, length_stretches}

-- sums

pub sum_append : (f : ℕ → ℕ) (k m i : ℕ) → sum_of f (k + m) i ≡ sum_of f k i + sum_of f m (i + k)
unfolding sum_of
sum_append f zero m i = ap₂ (λ (a b : ℕ). sum_of f a b) (zero-add m) (sym (add-zero i)) ∙ sym (zero-add (sum_of f m (i + 0)))
sum_append f (suc k) m i =
    let e : suc k + m ≡ suc (k + m) = omega arith in
    let z : i + 1 + k ≡ i + suc k = omega arith in
    ap (λ (a : ℕ). sum_of f a i) e
    ∙ ap (λ (a : ℕ). f i + a) (sum_append f k m (i + 1) ∙ ap (λ (b : ℕ). sum_of f k (i + 1) + sum_of f m b) z)
    ∙ sym (add_assoc (f i) (sum_of f k (i + 1)) (sum_of f m (i + suc k)))

sum_split : (f : ℕ → ℕ) (a b c : ℕ) → a ≤ b → b ≤ c → sum_of f (c - a) a ≡ sum_of f (b - a) a + sum_of f (c - b) b
sum_split f a b c h k =
    let e : c - a ≡ b - a + (c - b) = omega arith in
    let z : a + (b - a) ≡ b = omega arith in
    ap (λ (m : ℕ). sum_of f m a) e ∙ sum_append f (b - a) (c - b) a ∙ ap (λ (m : ℕ). sum_of f (b - a) a + sum_of f (c - b) m) z

sum_none : (f : ℕ → ℕ) (k i : ℕ) → ((m : ℕ) → i ≤ m → m < i + k → f m ≡ 0) → sum_of f k i ≡ 0
unfolding sum_of
sum_none f zero i h = refl
sum_none f (suc k) i h = ap₂ (λ (a b : ℕ). a + b) (h i (omega arith) (omega arith)) (sum_none f k (i + 1) (λ m a b. h m (omega arith) (omega arith)))

total : (Stretch → ℕ) → List Stretch → ℕ
total g [] = 0
total g (x ∷ xs) = g x + total g xs

total_append : (g : Stretch → ℕ) (xs zs : List Stretch) → total g (xs ++ zs) ≡ total g xs + total g zs
unfolding total
total_append g [] zs = sym (zero-add (total g zs))
total_append g (x ∷ xs) zs = ap (λ (m : ℕ). g x + m) (total_append g xs zs) ∙ sym (add_assoc (g x) (total g xs) (total g zs))

total_ones : (g : Stretch → ℕ) → ((x : Stretch) → g x ≡ 1) → (xs : List Stretch) → total g xs ≡ length xs
unfolding total
total_ones g h [] = refl
total_ones g h (x ∷ xs) = omega (arith, h x, total_ones g h xs)

module _ (w s : ℕ) (R : ℕ → Route) (n : ℕ) where
  -- a route that is no longer than l counts for no node from there on
  nodes_none : (k l i : ℕ) → (R i).len ≤ l → count_below w R n s k l i ≡ 0
  unfolding count_below count_at
  nodes_none zero l i h = refl
  nodes_none (suc k) l i h = rw (le-ltb l (R i).len h, nodes_none k (l + s) i (omega arith))

  nodes_suc : (k l m i : ℕ)
      → sum_of (count_below w R n s (suc k) l) m i ≡ sum_of (count_at w R n l) m i + sum_of (count_below w R n s k (l + s)) m i
  unfolding sum_of count_below
  nodes_suc k l zero i = refl
  nodes_suc k l (suc m) i = omega (arith, nodes_suc k l m (i + 1))

  -- the nodes of the tree below x on k levels more, x too
  size : ℕ → Stretch → ℕ
  size k x = 1 + sum_of (count_below w R n s k (x.depth + s)) (x.hi - x.lo) x.lo

  size_one : (x : Stretch) → size 0 x ≡ 1
  unfolding size count_below
  size_one x = ap (λ (m : ℕ). 1 + m) (sum_none (count_below w R n s 0 (x.depth + s)) (x.hi - x.lo) x.lo (λ m a b. refl))

  module _ (ok : ValidList w R n) where
    -- of the routes of a place, only the last counts for it
    module _ (z : Stretch) (h : ℕ) (p : Place w R n h z) where
      shares : (i : ℕ) → z.lo ≤ i → i + 1 < z.hi → count_at w R n z.depth i ≡ 0
      unfolding count_at
      shares i a b =
          let m : matches w (R i).value z.depth (R (i + 1)).value ≡ true =
          eq-eqb (head w z.depth (R (i + 1)).value) (head w z.depth (R i).value)
          (p.inside (i + 1) (omega arith) b ∙ sym (p.inside i a (omega arith))) in
          rw (lt-ltb (i + 1) n (omega (arith, p.most)), m) (both_none (ltb z.depth (R i).len))
        where
          both_none : (b : Bool) → ◌≡◌ {A = ℕ} (cond b 0 0) 0
          both_none true = refl
          both_none false = refl

      closes : z.lo < z.hi → z.depth < (R (z.hi - 1)).len → count_at w R n z.depth (z.hi - 1) ≡ 1
      unfolding count_at
      closes a l = rw (lt-ltb z.depth (R (z.hi - 1)).len l) (by (way (ltb (z.hi - 1 + 1) n)))
        where
          apart : z.hi - 1 + 1 < n → matches w (R (z.hi - 1)).value z.depth (R (z.hi - 1 + 1)).value ≡ false
          apart k =
              test_no (matches w (R (z.hi - 1)).value z.depth (R (z.hi - 1 + 1)).value) (λ t.
              let e = eqb-true (head w z.depth (R (z.hi - 1 + 1)).value) (head w z.depth (R (z.hi - 1)).value) t
              ∙ p.inside (z.hi - 1) (omega arith) (omega arith) in
              omega (arith, (head_within w z.depth (R (z.hi - 1 + 1)).value h e).1, p.after (z.hi - 1 + 1) (omega arith) k))

          by : (ltb (z.hi - 1 + 1) n ≡ true) ⊎ (ltb (z.hi - 1 + 1) n ≡ false)
              → ◌≡◌ {A = ℕ} (cond (ltb (z.hi - 1 + 1) n) (cond (matches w (R (z.hi - 1)).value z.depth (R (z.hi - 1 + 1)).value) 0 1) 1) 1
          by (inl t) = rw (t, apart (ltb-true (z.hi - 1 + 1) n t))
          by (inr t) = rw t

      one_node : z.lo < z.hi → z.depth < (R (z.hi - 1)).len → sum_of (count_at w R n z.depth) (z.hi - z.lo) z.lo ≡ 1
      unfolding sum_of
      one_node a l =
          let e : z.hi - (z.hi - 1) ≡ 1 = omega arith in
          sum_split (count_at w R n z.depth) z.lo (z.hi - 1) z.hi (omega arith) (omega arith)
          ∙ ap₂ (λ (c d : ℕ). c + d)
          (sum_none (count_at w R n z.depth) (z.hi - 1 - z.lo) z.lo (λ m b c. shares m b (omega arith)))
          (ap (λ (m : ℕ). sum_of (count_at w R n z.depth) m (z.hi - 1)) e ∙ ap (λ (m : ℕ). m + 0) (closes a l))

    -- a node's slots share out its stretch
    module _ (k : ℕ) (x : Stretch) (t : Stands w s R n (suc k) x) where
      abbrev deep : ℕ
      deep = x.depth + s

      abbrev start_at : ℕ → ℕ
      start_at j = start w deep (t.bits_at * 2 ^ s + j)

      abbrev count : ℕ → ℕ
      count i = count_below w R n s k deep i

      start_next : (j : ℕ) → start_at (j + 1) ≡ start_at j + span w deep
      start_next j =
          let e : t.bits_at * 2 ^ s + (j + 1) ≡ suc (t.bits_at * 2 ^ s + j) = omega arith in
          ap (λ (m : ℕ). m * span w deep) e ∙ suc-mul (t.bits_at * 2 ^ s + j) (span w deep)

      -- the routes from c on are those from slot j on
      record Split (j c : ℕ) : Type 0 where
        from : x.lo ≤ c
        most : c ≤ x.hi
        above : (i : ℕ) → c ≤ i → i < x.hi → start_at j ≤ (R i).value
        less : (i : ℕ) → x.lo ≤ i → i < c → (R i).value < start_at j

      module _ (j : ℕ) (l : j < 2 ^ s) where
        abbrev z : Stretch
        z = below w s R n ok k x t j l

        p : Place w R n (t.bits_at * 2 ^ s + j) z
        p = below_place w s R n ok k x t j l

        in_x : (x.lo ≤ z.lo) × (z.hi ≤ x.hi) × (z.depth ≡ deep)
        in_x = below_within w s R n ok k x t j l

        split_next : Split (j + 1) z.hi
        unfolding slot_stretch
        split_next = record {
          from = omega (arith, p.rows, in_x.0);
          most = in_x.1;
          above = λ i a b. omega (arith, start_next j, p.after i a (omega (arith, t.place.most)));
          less = λ i a b. ⊎_elim
              (λ (u : i < z.lo). omega (arith, start_next j, precedes_value_le (p.first i u), span_pos w deep))
              (λ (u : z.lo ≤ i). omega (arith, start_next j, (head_within w deep (R i).value (t.bits_at * 2 ^ s + j) (p.inside i u b)).1))
              (lt_or_le i z.lo);
        }

        module _ (c : ℕ) (q : Split j c) where
          gap_le : c ≤ z.lo
          unfolding slot_stretch
          gap_le =
              ⊎_elim
              (λ (u : z.lo < c).
              absurd (p.from z.lo (omega arith) (omega (arith, q.most, t.place.most)) (inl (q.less z.lo in_x.0 u))))
              (λ (u : c ≤ z.lo). u)
              (lt_or_le z.lo c)

          gap_none : (i : ℕ) → c ≤ i → i < z.lo → count i ≡ 0
          unfolding slot_stretch
          gap_none i a b =
              ⊎_elim
              (λ (u : (R i).value < start_at j). absurd (omega (arith, u, q.above i a (omega (arith, p.rows, in_x.1)))))
              (λ (u : ((R i).value ≡ start_at j) × ((R i).len < deep)). nodes_none k deep i (omega (arith, u.1)))
              (p.first i b)

        leaf_none : goes_on R z ≡ false → (i : ℕ) → z.lo ≤ i → i < z.hi → count i ≡ 0
        leaf_none f i a b =
            ⊎_elim
            (λ (u : deep < (R i).len).
            let v = last_longer w R n ok z (t.bits_at * 2 ^ s + j) p i a b (omega (arith, in_x.2)) in
            let g : goes_on R z ≡ true = rw (lt-ltb z.lo z.hi (omega arith), lt-ltb z.depth (R (z.hi - 1)).len v) in
            absurd (true≢false (sym g ∙ f)))
            (λ (u : (R i).len ≤ deep). nodes_none k deep i u)
            (lt_or_le deep (R i).len)

      -- slot j's stretch counts what the tree below it has
      slot_sum : (m : ℕ) → k ≡ suc m → (j : ℕ) (l : j < 2 ^ s)
          → sum_of count ((z j l).hi - (z j l).lo) (z j l).lo ≡ total (size m) (slot_children (stretch_slot w R s x j))
      unfolding total size
      slot_sum m e j l = by (goes_on R (z j l)) refl
        where
          by : (b : Bool) → goes_on R (z j l) ≡ b
              → sum_of count ((z j l).hi - (z j l).lo) (z j l).lo ≡ total (size m) (slot_children (stretch_slot w R s x j))
          by true g =
              let b = both (ltb (z j l).lo (z j l).hi) (ltb (z j l).depth (R ((z j l).hi - 1)).len) g in
              let o = one_node (z j l) (t.bits_at * 2 ^ s + j) (p j l) (ltb-true (z j l).lo (z j l).hi b.0) (ltb-true (z j l).depth (R ((z j l).hi - 1)).len b.1) in
              ap₂ (λ (a d : ℕ). sum_of (count_below w R n s a d) ((z j l).hi - (z j l).lo) (z j l).lo) e (sym (in_x j l).2)
              ∙ nodes_suc m (z j l).depth ((z j l).hi - (z j l).lo) (z j l).lo
              ∙ ap (λ (a : ℕ). a + sum_of (count_below w R n s m ((z j l).depth + s)) ((z j l).hi - (z j l).lo) (z j l).lo) o
              ∙ sym (ap (λ (o : Slot Stretch). total (size m) (slot_children o)) (slot_on_lem w s R n ok k x t j l g)
              ∙ add-zero (size m (z j l)))
          by false g =
              sum_none count ((z j l).hi - (z j l).lo) (z j l).lo (λ i a b. leaf_none j l g i a (omega arith))
              ∙ sym (ap (λ (o : Slot Stretch). total (size m) (slot_children o)) (slot_leaf w s R n ok k x t j l g))

      slots_sum : (m : ℕ) → k ≡ suc m → (a j c : ℕ) → j + a ≡ 2 ^ s → Split j c
          → total (size m) (flat slot_children (list_of (stretch_slot w R s x) a j)) ≡ sum_of count (x.hi - c) c
      unfolding list_of total sum_of
      slots_sum m e zero j c h q =
          let z : start_at j ≡ start w x.depth t.bits_at + span w x.depth = whole in
          let none : c < x.hi → ⊥ = λ u. omega (
            arith,
            q.above c (omega arith) u,
            (head_within w x.depth (R c).value t.bits_at (t.place.inside c q.from u)).1,
            z,
          ) in
          let f : x.hi - c ≡ 0 = ⊎_elim (λ (u : c < x.hi). absurd (none u)) (λ (u : x.hi ≤ c). omega arith) (lt_or_le c x.hi) in
          sym (ap (λ (b : ℕ). sum_of count b c) f)
        where
          last : t.bits_at * 2 ^ s + j ≡ suc t.bits_at * 2 ^ s
          last = omega (arith, suc-mul t.bits_at (2 ^ s), h)

          whole : start_at j ≡ start w x.depth t.bits_at + span w x.depth
          whole =
              ap (λ (b : ℕ). b * span w deep) last
              ∙ mul_assoc (suc t.bits_at) (2 ^ s) (span w deep)
              ∙ ap (λ (b : ℕ). suc t.bits_at * b) (sym (span_deeper w x.depth s (fits_of w s R n ok (suc k) x t)))
              ∙ suc-mul t.bits_at (span w x.depth)
      slots_sum m e (suc a) j c h q =
          let l : j < 2 ^ s = omega arith in
          total_append (size m) (slot_children (stretch_slot w R s x j)) (flat slot_children (list_of (stretch_slot w R s x) a (j + 1)))
          ∙ ap₂ (λ (u v : ℕ). u + v) (sym (slot_sum m e j l)) (slots_sum m e a (j + 1) (z j l).hi (omega arith) (split_next j l))
          ∙ sym (sum_split count c (z j l).lo x.hi (gap_le j l c q) (omega (arith, (p j l).rows, (in_x j l).1))
          ∙ ap₂ (λ (u v : ℕ). u + v)
          (sum_none count ((z j l).lo - c) c (λ i u v. gap_none j l c q i u (omega (arith, gap_le j l c q))))
          (sum_split count (z j l).lo (z j l).hi x.hi (p j l).rows (in_x j l).1)
          ∙ zero-add (sum_of count ((z j l).hi - (z j l).lo) (z j l).lo + sum_of count (x.hi - (z j l).hi) (z j l).hi))

      -- the nodes below x are counted by its stretch
      children_sum : (m : ℕ) → k ≡ suc m
          → total (size m) (children (stretch_slots w R s (2 ^ s)) x) ≡ sum_of count (x.hi - x.lo) x.lo
      children_sum m e =
          slots_sum m e (2 ^ s) 0 x.lo (zero-add (2 ^ s)) record {
            from = omega arith;
            most = t.place.rows;
            above = λ i a b. omega (arith, first_start, (head_within w x.depth (R i).value t.bits_at (t.place.inside i a b)).0);
            less = λ i a b. absurd (omega arith);
          }
        where
          first_start : start_at 0 ≡ start w x.depth t.bits_at
          first_start =
              ap (λ (b : ℕ). b * span w deep) (add-zero (t.bits_at * 2 ^ s))
              ∙ mul_assoc t.bits_at (2 ^ s) (span w deep)
              ∙ ap (λ (b : ℕ). t.bits_at * b) (sym (span_deeper w x.depth s (fits_of w s R n ok (suc k) x t)))

    abbrev slots : Stretch → List (Slot Stretch)
    slots = stretch_slots w R s (2 ^ s)

    level_sum : (k : ℕ) (xs : List Stretch) → All (Stands w s R n (suc (suc k))) xs
        → length xs + total (size k) (flat (children slots) xs) ≡ total (size (suc k)) xs
    unfolding total size
    level_sum k [] h = refl
    level_sum k (x ∷ xs) h =
        omega (
          arith,
          total_append (size k) (children slots x) (flat (children slots) xs),
          children_sum (suc k) x h.0 k refl,
          level_sum k xs h.1,
        )

    levels_sum : (k : ℕ) (xs : List Stretch) → All (Stands w s R n (suc k)) xs → length (levels slots (suc k) xs) ≡ total (size k) xs
    levels_sum zero xs h = length-append xs [] ∙ add-zero (length xs) ∙ sym (total_ones (size 0) size_one xs)
    levels_sum (suc k) xs h =
        length-append xs (levels slots (suc k) (flat (children slots) xs))
        ∙ ap (λ (m : ℕ). length xs + m)
        (levels_sum k (flat (children slots) xs)
        (level_all slots (Stands w s R n) (λ x t. omega (arith, t.some)) (slots_below w s R n ok) (suc k) xs h))
        ∙ level_sum k xs h

    count_stretches : (st : Strided w s) → length (stretches w R s n) ≡ nodes_count w R n s
    unfolding total size
    count_stretches st =
        let e : suc (w / s - 1) ≡ w / s = omega (arith, levels_pos st) in
        let r = subst (λ (k : ℕ). Stands w s R n k (root_of n)) (sym e) (root_stands w s R n ok st) in
        ap (λ (k : ℕ). length (levels slots k (root_of n ∷ []))) (sym e)
        ∙ levels_sum (w / s - 1) (root_of n ∷ []) (r, tt)
        ∙ add-zero (size (w / s - 1) (root_of n))
        ∙ ap₂ (λ (l m : ℕ). 1 + sum_of (count_below w R n s (w / s - 1) l) m 0) (zero-add s) (omega arith)

pub count_is : CountIs
count_is w s R n st ok = sym (count_stretches w s R n ok st) ∙ length_stretches w s R n ok st
