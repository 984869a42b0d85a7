-- The tree of stretches of a valid list is alike to the image's tree of bits: it has the same words and ports, and its nodes are
-- numbered as the image's are. Assumes nothing.
use mathlib.Core.Path.{◌≡◌, refl, sym, ap, ◌∙◌, subst}
use mathlib.Core.Bool.{Bool, true, false, cond}
use mathlib.Core.Logic.{◌⊎◌, inl, inr, ⊎_elim}
use mathlib.Core.List.{List, [], ◌∷◌}
use Prim.Native.Nat.{ℕ, zero, suc, ◌+◌, ◌-◌, ◌*◌, ◌/◌, ◌^◌, ◌≤◌, ◌<◌}
use native.Mathlib.Omega.{arith}
use native.Mathlib.Nat.{zero-add, mul-suc, mul-zero}
use lib.Dec.{ltb}
use lib.ListN.{length, get_or}
use borrow.Author.Tests.{ltb-true}
use Rattle.bits.specs.Bits.{Bits, bits}
use Rattle.bits.specs.Prefix.{span}
use Rattle.lists.proofs.Tests.{both, lt_or_le}
use Rattle.bits.proofs.Prefix.{head_range}
use Rattle.trie.specs.Scan.{scan_list}
use Rattle.routes.specs.Routes.{ValidList}
use Rattle.lists.specs.Numbered.{list_of}
use Rattle.routes.specs.Scan.{last_match}
use Rattle.routes.specs.declared.Route.{Route}
use Rattle.lists.specs.Flat.{flat}
use Rattle.image_rules.specs.Breadth.{leaf, non_leaf, children, levels, tree_words, tree_ports}
use Rattle.image_rules.specs.Image.{slot_of, slot_bits, slots, image_paths, image_nodes, image_ports, routes_of}
use Rattle.image_rules.specs.Lookup.{Strided}
use Rattle.lists.proofs.Flat.{All, all_append, all_at}
use Rattle.image_rules.proofs.Numbering.{Below, level_all, levels_is, first_child_lt}
use Rattle.image_rules.proofs.Alike.{Each, Alike, length_each, levels_alike, words_alike, tree_ports_alike}
use Rattle.image_rules.proofs.Image.{strides_make, levels_pos}
use Rattle.image_stretch.specs.declared.Stretch.{Stretch}
use Rattle.image_stretch.specs.Stretches.{goes_on, leaf_port, slot_in, slot_stretch, stretch_slot, stretch_slots, root_of, stretches}
use Rattle.image_stretch.specs.Memory.{used_after}
use Rattle.image_stretch.specs.Theorems.{StretchesImage}
use Rattle.image_stretch.proofs.Places.{Place, y, slot_place, slot_within, slot_address_is}
use Rattle.image_stretch.proofs.Alikes.{goes_on_is, leaf_port_is, slot_bits_is}

-- numbers in lists of one length, one by one
each_list_of : {A B : Type 0} (S : A → B → Type 0) (f : ℕ → A) (g : ℕ → B) (k i : ℕ) → ((j : ℕ) → i ≤ j → j < i + k → S (f j) (g j))
    → Each S (list_of f k i) (list_of g k i)
unfolding list_of
each_list_of S f g zero i h = tt
each_list_of S f g (suc k) i h = (h i (omega arith) (omega arith), each_list_of S f g k (i + 1) (λ j a b. h j (omega arith) (omega arith)))

pub all_list_of_below : {A : Type 0} (P : A → Type 0) (f : ℕ → A) (k i : ℕ) → ((j : ℕ) → i ≤ j → j < i + k → P (f j)) → All P (list_of f k i)
unfolding list_of
all_list_of_below P f zero i h = tt
all_list_of_below P f (suc k) i h = (h i (omega arith) (omega arith), all_list_of_below P f k (i + 1) (λ j a b. h j (omega arith) (omega arith)))

-- x is the stretch of a node with k levels left, the last of which ends the address
pub record Stands (w s : ℕ) (R : ℕ → Route) (n k : ℕ) (x : Stretch) : Type 0 where
  pub bits_at : ℕ
  pub place : Place w R n bits_at x
  pub left : x.depth + s * k ≡ w
  pub some : 0 < k
  pub found : (x.lo < x.hi) ⊎ (x.depth ≡ 0)

module _ (w s : ℕ) (R : ℕ → Route) (n : ℕ) (ok : ValidList w R n) where
  pub fits_of : (k : ℕ) (x : Stretch) → Stands w s R n k x → x.depth + s ≤ w
  fits_of zero x t = absurd (omega (arith, t.some))
  fits_of (suc k) x t = omega (arith, t.left, mul-suc s k)

  -- slot j of a node
  module _ (k : ℕ) (x : Stretch) (t : Stands w s R n (suc k) x) (j : ℕ) (l : j < 2 ^ s) where
    abbrev fits : x.depth + s ≤ w
    fits = fits_of (suc k) x t

    abbrev pub below : Stretch
    below = y w R n ok x t.bits_at t.place s j (fits_of (suc k) x t) l

    pub below_place : Place w R n (t.bits_at * 2 ^ s + j) below
    below_place = slot_place w R n ok x t.bits_at t.place s j (fits_of (suc k) x t) l

    pub below_within : (x.lo ≤ below.lo) × (below.hi ≤ x.hi) × (below.depth ≡ x.depth + s)
    below_within = slot_within w R n ok x t.bits_at t.place s j (fits_of (suc k) x t) l

    pub slot_at_is : stretch_slot w R s x j ≡ slot_in R below
    slot_at_is =
        ap (λ (v : ℕ). slot_in R (slot_stretch w R x v (x.depth + s)))
        (slot_address_is w R n ok x t.bits_at t.place s j (fits_of (suc k) x t) l t.found)

    pub below_stands : goes_on R below ≡ true → Stands w s R n k below
    below_stands g =
        let p = below_place in
        let b = both (ltb below.lo below.hi) (ltb below.depth (R (below.hi - 1)).len) g in
        let some : below.lo < below.hi = ltb-true below.lo below.hi b.0 in
        let long : below.depth < (R (below.hi - 1)).len = ltb-true below.depth (R (below.hi - 1)).len b.1 in
        let short = (ok.each (below.hi - 1) (omega (arith, p.most))).prefix.short in
        let left : below.depth + s * k ≡ w = omega (arith, below_within.2, t.left, mul-suc s k) in
        record {
          bits_at = t.bits_at * 2 ^ s + j;
          place = p;
          left = left;
          some = ⊎_elim (λ (z : 0 < k). z) (λ (z : k ≤ 0). let e : k ≡ 0 = omega arith in absurd (omega (arith, long, short, left, ap (λ (m : ℕ). s * m) e, mul-zero s))) (lt_or_le 0 k);
          found = inl some;
        }

    -- the slot by the test of its stretch
    slot_by : (b : Bool) → goes_on R below ≡ b → stretch_slot w R s x j ≡ cond b (non_leaf below) (leaf (leaf_port R below))
    slot_by b e = slot_at_is ∙ ap (λ (c : Bool). cond c (non_leaf below) (leaf (leaf_port R below))) e

    pub slot_leaf : goes_on R below ≡ false → stretch_slot w R s x j ≡ leaf (leaf_port R below)
    slot_leaf e = slot_by false e

    pub slot_on_lem : goes_on R below ≡ true → stretch_slot w R s x j ≡ non_leaf below
    slot_on_lem e = slot_by true e

    slot_below : Below (Stands w s R n) k (stretch_slot w R s x j)
    slot_below = by (goes_on R below) refl
      where
        by : (b : Bool) → goes_on R below ≡ b → Below (Stands w s R n) k (stretch_slot w R s x j)
        by true e = subst (Below (Stands w s R n) k) (sym (slot_on_lem e)) (below_stands e)
        by false e = subst (Below (Stands w s R n) k) (sym (slot_leaf e)) tt

  -- the nodes of the two trees that are alike
  pub record Like (x : Stretch) (q : Bits) : Type 0 where
    pub levels : ℕ
    pub stands : Stands w s R n levels x
    pub path : q ≡ bits x.depth stands.bits_at

  slot_alike : (k : ℕ) (x : Stretch) (t : Stands w s R n (suc k) x) (j : ℕ) → j < 2 ^ s
      → Alike Like (stretch_slot w R s x j) (slot_of (routes_of w R n) (slot_bits s (bits x.depth t.bits_at) j))
  unfolding below_stands
  slot_alike k x t j l = by (goes_on R (below k x t j l)) refl
    where
      z : Stretch
      z = below k x t j l

      p : Place w R n (t.bits_at * 2 ^ s + j) z
      p = below_place k x t j l

      q : slot_bits s (bits x.depth t.bits_at) j ≡ bits z.depth (t.bits_at * 2 ^ s + j)
      q =
          slot_bits_is s x.depth t.bits_at j l
          ∙ ap (λ (d : ℕ). bits d (t.bits_at * 2 ^ s + j)) (sym (below_within k x t j l).2)

      is : (b : Bool) → goes_on R z ≡ b
          → slot_of (routes_of w R n) (slot_bits s (bits x.depth t.bits_at) j)
          ≡ cond b (non_leaf (bits z.depth (t.bits_at * 2 ^ s + j))) (leaf (scan_list (routes_of w R n) (bits z.depth (t.bits_at * 2 ^ s + j))))
      is b e =
          ap (slot_of (routes_of w R n)) q
          ∙ ap (λ (c : Bool). cond c (non_leaf (bits z.depth (t.bits_at * 2 ^ s + j))) (leaf (scan_list (routes_of w R n) (bits z.depth (t.bits_at * 2 ^ s + j)))))
          (sym (goes_on_is w R n ok z (t.bits_at * 2 ^ s + j) p) ∙ e)

      by : (b : Bool) → goes_on R z ≡ b → Alike Like (stretch_slot w R s x j) (slot_of (routes_of w R n) (slot_bits s (bits x.depth t.bits_at) j))
      by true e = rw (slot_on_lem k x t j l e, is true e) record { levels = k; stands = below_stands k x t j l e; path = refl }
      by false e = rw (slot_leaf k x t j l e, is false e) (leaf_port_is w R n ok z (t.bits_at * 2 ^ s + j) p e)

  slots_alike : (x : Stretch) (q : Bits) → Like x q → Each (Alike Like) (stretch_slots w R s (2 ^ s) x) (slots (routes_of w R n) s q)
  slots_alike x q t = by t.levels t.stands t.path
    where
      by : (k : ℕ) (u : Stands w s R n k x) → q ≡ bits x.depth u.bits_at
          → Each (Alike Like) (stretch_slots w R s (2 ^ s) x) (slots (routes_of w R n) s q)
      by zero u e = absurd (omega (arith, u.some))
      by (suc k) u e =
          rw e (each_list_of (Alike Like) (stretch_slot w R s x) (λ j. slot_of (routes_of w R n) (slot_bits s (bits x.depth u.bits_at) j)) (2 ^ s) 0
          (λ j a b. slot_alike k x u j (omega arith)))

  pub slots_below : (k : ℕ) (x : Stretch) → Stands w s R n (suc k) x → All (Below (Stands w s R n) k) (stretch_slots w R s (2 ^ s) x)
  slots_below k x t = all_list_of_below (Below (Stands w s R n) k) (stretch_slot w R s x) (2 ^ s) 0 (λ j a b. slot_below k x t j (omega arith))

  -- the root
  root_place : Place w R n 0 (root_of n)
  unfolding last_match
  root_place = record {
    high = omega arith;
    deep = omega arith;
    rows = omega arith;
    most = omega arith;
    first = λ i h. absurd (omega arith);
    from = λ i h l a. ⊎_elim (λ (z : (R i).value < 0 * span w 0). omega (arith, none)) (λ (z : ((R i).value ≡ 0 * span w 0) × ((R i).len < 0)). omega (arith, z.1)) a;
    inside = λ i h l. head_range w 0 0 (R i).value (omega (arith, none)) (omega (arith, none, (ok.each i l).prefix.fits, whole));
    after = λ i h l. absurd (omega arith);
    best = refl;
  }
    where
      none : 0 * span w 0 ≡ 0
      none = omega arith

      whole : span w 0 ≡ 2 ^ w
      whole = ap (λ (k : ℕ). 2 ^ k) (omega arith)

  module _ (st : Strided w s) where
    pub root_stands : Stands w s R n (w / s) (root_of n)
    root_stands = record {
      bits_at = 0;
      place = root_place;
      left = zero-add (s * (w / s)) ∙ strides_make st;
      some = levels_pos st;
      found = inr refl;
    }

    alike : Each Like (stretches w R s n) (image_paths s (w / s) (routes_of w R n))
    unfolding bits root_stands
    alike =
        levels_alike Like (stretch_slots w R s (2 ^ s)) (slots (routes_of w R n) s) slots_alike (w / s) (root_of n ∷ []) ([] ∷ [])
        (record { levels = w / s; stands = root_stands; path = refl }, tt)

    pub length_stretches : length (stretches w R s n) ≡ length (image_paths s (w / s) (routes_of w R n))
    length_stretches = length_each Like (stretches w R s n) (image_paths s (w / s) (routes_of w R n)) alike

    pub stretches_image :
        (tree_words (stretch_slots w R s (2 ^ s)) (stretches w R s n) ≡ image_nodes s (w / s) (routes_of w R n))
        × (tree_ports (stretch_slots w R s (2 ^ s)) (stretches w R s n) ≡ image_ports s (w / s) (routes_of w R n))
    stretches_image = (
      words_alike Like (stretch_slots w R s (2 ^ s)) (slots (routes_of w R n) s) slots_alike 1 2 (stretches w R s n) (image_paths s (w / s) (routes_of w R n)) alike,
      tree_ports_alike Like (stretch_slots w R s (2 ^ s)) (slots (routes_of w R n) s) slots_alike (stretches w R s n) (image_paths s (w / s) (routes_of w R n)) alike,
    )

    -- the numbering
    pub stretches_numbered : stretches w R s n ≡ root_of n ∷ flat (children (stretch_slots w R s (2 ^ s))) (stretches w R s n)
    stretches_numbered =
        levels_is (stretch_slots w R s (2 ^ s)) (Stands w s R n) (λ x t. omega (arith, t.some)) slots_below (w / s) (root_of n ∷ []) (root_stands, tt)

    pub stretches_before : (i : ℕ) → i < length (stretches w R s n) → i < used_after (stretch_slots w R s (2 ^ s)) (stretches w R s n) i
    stretches_before i h = first_child_lt (stretch_slots w R s (2 ^ s)) (w / s) (root_of n ∷ []) i h

    -- each node is a stretch of the list with a node's bounds
    levels_stand : (P : Stretch → Type 0) → ((k : ℕ) (x : Stretch) → Stands w s R n k x → P x)
        → (k : ℕ) (xs : List Stretch) → All (Stands w s R n k) xs → All P (levels (stretch_slots w R s (2 ^ s)) k xs)
    levels_stand P f zero xs h = tt
    levels_stand P f (suc k) xs h =
        all_append P xs (levels (stretch_slots w R s (2 ^ s)) k (flat (children (stretch_slots w R s (2 ^ s))) xs))
        (each xs h)
        (levels_stand P f k (flat (children (stretch_slots w R s (2 ^ s))) xs)
        (level_all (stretch_slots w R s (2 ^ s)) (Stands w s R n) (λ x t. omega (arith, t.some)) slots_below k xs h))
      where
        each : (zs : List Stretch) → All (Stands w s R n (suc k)) zs → All P zs
        each [] h = tt
        each (z ∷ zs) h = (f (suc k) z h.0, each zs h.1)

    pub stretches_stand : (P : Stretch → Type 0) → ((k : ℕ) (x : Stretch) → Stands w s R n k x → P x)
        → (i : ℕ) → i < length (stretches w R s n) → P (get_or (stretches w R s n) i (root_of n))
    stretches_stand P f i h =
        all_at P (stretches w R s n) i (root_of n) h (levels_stand P f (w / s) (root_of n ∷ []) (root_stands, tt))

pub image_of_stretches : StretchesImage
image_of_stretches w s R n st ok = stretches_image w s R n ok st
