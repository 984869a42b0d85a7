-- The lookup reads the nodes and answers the number that are said of it apart from its walk, and nothing else is: RULES, "Lookup in an
-- image". Assumes nothing.
use mathlib.Core.Path.{◌≡◌, refl, sym, ap, subst, ◌∙◌}
use mathlib.Core.Logic.{inl, inr, ⊎_elim}
use mathlib.Core.Bool.{Bool, true, false, cond, true≢false}
use mathlib.Core.List.{List}
use Prim.Native.Nat.{ℕ, zero, suc, ◌+◌, ◌-◌, ◌*◌, ◌/◌, ◌^◌, ◌≤◌, ◌<◌}
use native.Mathlib.Omega.{arith}
use native.Mathlib.Nat.{mul-add}
use lib.Dec.{eqb, ltb, leb}
use lib.ListN.{length, get_or, take, drop}
use lib.Seq.{drop_at}
use borrow.Author.Tests.{eqb-true, eqb-false, ltb-true, ltb-false, leb-true, leb-false}
use Rattle.bits.specs.Bits.{bits}
use Rattle.bits.specs.Bitmap.{slot_bit}
use Rattle.bits.proofs.Bits.{length_bits, bits_add}
use Rattle.bits.proofs.Digits.{take_level}
use Rattle.lists.proofs.Tests.{way}
use Rattle.refusals.specs.Refusals.{not_in_order, wrong_stride, found, lost}
use Rattle.refusals.specs.declared.found.Found.{Found}
use Rattle.routes.specs.Bounds.{last_port}
use Rattle.image_rules.specs.Node.{is_node, bitmap_of}
use Rattle.image_rules.specs.Lookup.{address_slot, leaf_of, child_at, leaf_at, is_sound, walk, is_stride, lookup_words}
use Rattle.image_rules.specs.NodesRead.{slot_on, node_on, GoesOn, LeafNumber, EndsAt, NodesRead, IsStride, ReadsAndNumber, LookupReads, ReadsUnique, SlotOnIs}
use Rattle.image_rules.proofs.Sound.{sound_is, unsound_is, sound_or_not}
use Rattle.image_rules.proofs.Image.{strides_make}

-- a leaf's number, and that it is the one
module _ (ports : List ℕ) (l reads : ℕ) where
  leaf_says : (P : Found → Type 0)
      → ((m p : ℕ) → LeafNumber ports l m → P (record { number = m; port = p; reads = reads })) → P (leaf_at ports l reads)
  leaf_says P says = by (ltb l (length ports)) (leb (get_or ports l 0) last_port) refl refl
    where
      by : (b c : Bool) → ltb l (length ports) ≡ b → leb (get_or ports l 0) last_port ≡ c
          → P (cond b (cond c (found (get_or ports l 0) reads) (lost not_in_order reads)) (lost not_in_order reads))
      by true true e f = says 0 (get_or ports l 0) (inl (ltb-true l (length ports) e, leb-true (get_or ports l 0) last_port f, refl))
      by true false e f = says not_in_order 0 (inr (inr (leb-false (get_or ports l 0) last_port f), refl))
      by false c e f = says not_in_order 0 (inr (inl (ltb-false l (length ports) e), refl))

leaf_number_unique : (ports : List ℕ) (l m n : ℕ) → LeafNumber ports l m → LeafNumber ports l n → m ≡ n
leaf_number_unique ports l m n (inl x) (inl y) = x.2 ∙ sym y.2
leaf_number_unique ports l m n (inl x) (inr (inl y, e)) = absurd (omega (arith, x.0))
leaf_number_unique ports l m n (inl x) (inr (inr y, e)) = absurd (omega (arith, x.1))
leaf_number_unique ports l m n (inr (inl x, e)) (inl y) = absurd (omega (arith, y.0))
leaf_number_unique ports l m n (inr (inr x, e)) (inl y) = absurd (omega (arith, y.1))
leaf_number_unique ports l m n (inr x) (inr y) = x.1 ∙ sym y.1

-- the lookup does so
module _ (w s : ℕ) (nodes ports : List ℕ) (addr : ℕ) where
  abbrev Says : Found → Type 0
  Says f = NodesRead w s nodes ports addr f.reads f.number

  abbrev WentOn : ℕ → Type 0
  WentOn p = (i : ℕ) → i < p → GoesOn s nodes (node_on w s nodes addr i) (slot_on w s addr i)

  -- one level more
  went_on_more : (p : ℕ) → WentOn p → GoesOn s nodes (node_on w s nodes addr p) (slot_on w s addr p) → WentOn (suc p)
  went_on_more p on here i h =
      ⊎_elim
      (λ (t : eqb i p ≡ true). subst (λ (n : ℕ). GoesOn s nodes (node_on w s nodes addr n) (slot_on w s addr n)) (sym (eqb-true i p t)) here)
      (λ (t : eqb i p ≡ false). let other : (i ≡ p → ⊥) = eqb-false i p t in on i (omega arith))
      (way (eqb i p))

  -- a turn on level p, at node a and slot j
  module _ (p r : ℕ) (at : r ≡ p) (level : p < w / s) (on : WentOn p) where
    abbrev a : ℕ
    a = node_on w s nodes addr p

    abbrev j : ℕ
    j = slot_on w s addr p

    turn : (next : Found) → (GoesOn s nodes a j → Says next) → (node sound one : Bool)
        → is_node nodes a ≡ node → is_sound s nodes a ≡ sound → eqb (slot_bit (2 ^ s) (bitmap_of nodes a) j) 1 ≡ one
        → Says (cond node (cond sound (cond one (leaf_at ports (leaf_of (2 ^ s) nodes a j) (r + 1)) next) (lost not_in_order (r + 1))) (lost not_in_order r))
    turn next goes true true true n b o =
        leaf_says ports (leaf_of (2 ^ s) nodes a j) (r + 1) Says (λ m q says. record {
          levels_passed = p;
          went_on = on;
          ends = inl (record {
            level = level;
            is_read = n;
            sound = sound_is s nodes a b;
            is_leaf = eqb-true (slot_bit (2 ^ s) (bitmap_of nodes a) j) 1 o;
            reads = omega (arith, at);
            number = says;
          });
        })
    turn next goes true true false n b o =
        let other : (slot_bit (2 ^ s) (bitmap_of nodes a) j ≡ 1 → ⊥) = eqb-false (slot_bit (2 ^ s) (bitmap_of nodes a) j) 1 o in
        goes (record { is_read = n; sound = sound_is s nodes a b; non_leaf_lem = omega arith })
    turn next goes true false one n b o = record {
      levels_passed = p;
      went_on = on;
      ends = inr (inl (record {
        level = level;
        is_read = n;
        unsound = unsound_is s nodes a b;
        reads = omega (arith, at);
        number = refl;
      }));
    }
    turn next goes false sound one n b o = record {
      levels_passed = p;
      went_on = on;
      ends = inr (inr (inl (record { level = level; no_node = n; reads = at; number = refl })));
    }

  -- what the walk answers from node c on, if slot t is the address's
  abbrev turned : ℕ → ℕ → ℕ → ℕ → Found
  turned k c r t =
      cond (is_node nodes c)
      (cond (is_sound s nodes c)
      (cond (eqb (slot_bit (2 ^ s) (bitmap_of nodes c) t) 1)
      (leaf_at ports (leaf_of (2 ^ s) nodes c t) (r + 1))
      (walk s nodes ports addr k (child_at (2 ^ s) nodes c t) (r + 1)))
      (lost not_in_order (r + 1)))
      (lost not_in_order r)

  walk_says : (k p r : ℕ) → r ≡ p → p + k ≡ w / s → WentOn p → Says (walk s nodes ports addr k (node_on w s nodes addr p) r)
  unfolding walk
  walk_says zero p r at here on = record {
    levels_passed = p;
    went_on = on;
    ends = inr (inr (inr (record { no_level = omega arith; reads = at; number = refl })));
  }
  walk_says (suc k) p r at here on =
      let left : w / s - 1 - p ≡ k = omega arith in
      let c : ℕ = node_on w s nodes addr p in
      subst (λ (i : ℕ). Says (turned k c r (address_slot s addr i))) left
      (turn p r at (omega arith) on (walk s nodes ports addr k (node_on w s nodes addr (suc p)) (r + 1))
      (λ goes. walk_says k (suc p) (r + 1) (omega arith) (omega arith) (went_on_more p on goes))
      (is_node nodes c) (is_sound s nodes c) (eqb (slot_bit (2 ^ s) (bitmap_of nodes c) (slot_on w s addr p)) 1)
      refl refl refl)

-- a stride, as a test
stride_is : (s : ℕ) → is_stride s ≡ true → IsStride s
stride_is s t = by (eqb s 1) (eqb s 2) refl refl t
  where
    by : (b c : Bool) → eqb s 1 ≡ b → eqb s 2 ≡ c → cond b true (cond c true (eqb s 4)) ≡ true → IsStride s
    by true c e f t = inl (eqb-true s 1 e)
    by false true e f t = inr (inl (eqb-true s 2 f))
    by false false e f t = inr (inr (eqb-true s 4 t))

is_stride_lem : (s : ℕ) → IsStride s → is_stride s ≡ true
is_stride_lem s (inl e) = rw e
is_stride_lem s (inr (inl e)) = rw e
is_stride_lem s (inr (inr e)) = rw e

pub lookup_reads : LookupReads
unfolding lookup_words
lookup_reads w s nodes ports addr = by (is_stride s) refl
  where
    by : (b : Bool) → is_stride s ≡ b
        → ReadsAndNumber w s nodes ports addr (cond b (walk s nodes ports addr (w / s) 1 0) (lost wrong_stride 0)).reads
        (cond b (walk s nodes ports addr (w / s) 1 0) (lost wrong_stride 0)).number
    by true t = record {
      wrong_stride_lem = λ other. absurd (other (stride_is s t));
      stride = λ is. walk_says w s nodes ports addr (w / s) 0 0 refl (omega arith) (λ i h. absurd (omega arith));
    }
    by false t = record {
      wrong_stride_lem = λ other. (refl, refl);
      stride = λ is. absurd (true≢false (sym (is_stride_lem s is) ∙ t));
    }

-- and nothing else does

module _ (s : ℕ) (nodes ports : List ℕ) (levels i a j : ℕ) where
  -- where it ends, it does not go on
  ends_here : (k m : ℕ) → EndsAt s nodes ports levels i a j k m → i < levels → GoesOn s nodes a j → ⊥
  ends_here k m (inl e) h on = omega (arith, e.is_leaf, on.non_leaf_lem)
  ends_here k m (inr (inl e)) h on = sound_or_not s nodes a on.sound e.unsound
  ends_here k m (inr (inr (inl e))) h on = true≢false (sym on.is_read ∙ e.no_node)
  ends_here k m (inr (inr (inr e))) h on = omega (arith, e.no_level)

  ends_le : (k m : ℕ) → EndsAt s nodes ports levels i a j k m → i ≤ levels
  ends_le k m (inl e) = omega (arith, e.level)
  ends_le k m (inr (inl e)) = omega (arith, e.level)
  ends_le k m (inr (inr (inl e))) = omega (arith, e.level)
  ends_le k m (inr (inr (inr e))) = omega (arith, e.no_level)

  -- it ends in one way
  ends_unique : (k m k' m' : ℕ) → EndsAt s nodes ports levels i a j k m → EndsAt s nodes ports levels i a j k' m' → (k ≡ k') × (m ≡ m')
  ends_unique k m k' m' (inl e) (inl f) =
      (e.reads ∙ sym f.reads, leaf_number_unique ports (leaf_of (2 ^ s) nodes a j) m m' e.number f.number)
  ends_unique k m k' m' (inl e) (inr (inl f)) = absurd (sound_or_not s nodes a e.sound f.unsound)
  ends_unique k m k' m' (inl e) (inr (inr (inl f))) = absurd (true≢false (sym e.is_read ∙ f.no_node))
  ends_unique k m k' m' (inl e) (inr (inr (inr f))) = absurd (omega (arith, e.level, f.no_level))
  ends_unique k m k' m' (inr (inl e)) (inl f) = absurd (sound_or_not s nodes a f.sound e.unsound)
  ends_unique k m k' m' (inr (inl e)) (inr (inl f)) = (e.reads ∙ sym f.reads, e.number ∙ sym f.number)
  ends_unique k m k' m' (inr (inl e)) (inr (inr (inl f))) = absurd (true≢false (sym e.is_read ∙ f.no_node))
  ends_unique k m k' m' (inr (inl e)) (inr (inr (inr f))) = absurd (omega (arith, e.level, f.no_level))
  ends_unique k m k' m' (inr (inr (inl e))) (inl f) = absurd (true≢false (sym f.is_read ∙ e.no_node))
  ends_unique k m k' m' (inr (inr (inl e))) (inr (inl f)) = absurd (true≢false (sym f.is_read ∙ e.no_node))
  ends_unique k m k' m' (inr (inr (inl e))) (inr (inr (inl f))) = (e.reads ∙ sym f.reads, e.number ∙ sym f.number)
  ends_unique k m k' m' (inr (inr (inl e))) (inr (inr (inr f))) = absurd (omega (arith, e.level, f.no_level))
  ends_unique k m k' m' (inr (inr (inr e))) (inl f) = absurd (omega (arith, f.level, e.no_level))
  ends_unique k m k' m' (inr (inr (inr e))) (inr (inl f)) = absurd (omega (arith, f.level, e.no_level))
  ends_unique k m k' m' (inr (inr (inr e))) (inr (inr (inl f))) = absurd (omega (arith, f.level, e.no_level))
  ends_unique k m k' m' (inr (inr (inr e))) (inr (inr (inr f))) = (e.reads ∙ sym f.reads, e.number ∙ sym f.number)

module _ (w s : ℕ) (nodes ports : List ℕ) (addr : ℕ) where
  -- of two, neither ends on an earlier level
  no_earlier : (k m k' m' : ℕ) (x : NodesRead w s nodes ports addr k m) (y : NodesRead w s nodes ports addr k' m')
      → x.levels_passed < y.levels_passed → ⊥
  no_earlier k m k' m' x y h =
      let p : ℕ = x.levels_passed in
      let q : ℕ = y.levels_passed in
      let most : q ≤ w / s = ends_le s nodes ports (w / s) q (node_on w s nodes addr q) (slot_on w s addr q) k' m' y.ends in
      ends_here s nodes ports (w / s) p (node_on w s nodes addr p) (slot_on w s addr p) k m x.ends (omega arith) (y.went_on p h)

  nodes_read_unique : (k m k' m' : ℕ) → NodesRead w s nodes ports addr k m → NodesRead w s nodes ports addr k' m' → (k ≡ k') × (m ≡ m')
  nodes_read_unique k m k' m' x y =
      let p : ℕ = x.levels_passed in
      let u : (x.levels_passed < y.levels_passed → ⊥) = no_earlier k m k' m' x y in
      let v : (y.levels_passed < x.levels_passed → ⊥) = no_earlier k' m' k m y x in
      let same : y.levels_passed ≡ p = omega arith in
      ends_unique s nodes ports (w / s) p (node_on w s nodes addr p) (slot_on w s addr p) k m k' m' x.ends
      (subst (λ (i : ℕ). EndsAt s nodes ports (w / s) i (node_on w s nodes addr i) (slot_on w s addr i) k' m') same y.ends)

pub reads_unique : ReadsUnique
reads_unique w s nodes ports addr k m k' m' x y = by (is_stride s) refl
  where
    by : (b : Bool) → is_stride s ≡ b → (k ≡ k') × (m ≡ m')
    by true t =
        let is = stride_is s t in nodes_read_unique w s nodes ports addr k m k' m' (x.stride is) (y.stride is)
    by false t =
        let none : (IsStride s → ⊥) = λ is. true≢false (sym (is_stride_lem s is) ∙ t) in
        let e = x.wrong_stride_lem none in
        let f = y.wrong_stride_lem none in
        (e.0 ∙ sym f.0, e.1 ∙ sym f.1)

-- the bits of an address from level i on
pub slot_on_is : SlotOnIs
slot_on_is w s addr i st h =
    let k : ℕ = w / s - 1 - i in
    let e : w / s ≡ i + suc k = omega arith in
    let n : s * i + s * suc k ≡ w = sym (mul-add s i (suc k)) ∙ ap (λ (x : ℕ). s * x) (sym e) ∙ strides_make st in
    let d : drop (s * i) (bits w addr) ≡ bits (s * suc k) addr =
    ap (λ (x : ℕ). drop (s * i) (bits x addr)) (sym n) ∙ ap (drop (s * i)) (bits_add (s * i) (s * suc k) addr)
    ∙ drop_at (bits (s * i) (addr / 2 ^ (s * suc k))) (bits (s * suc k) addr) (s * i) (length_bits (s * i) (addr / 2 ^ (s * suc k))) in
    sym (ap (take s) d ∙ take_level s k addr)
