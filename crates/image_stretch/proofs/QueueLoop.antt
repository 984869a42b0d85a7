-- The builder's loop: with i nodes done the memory holds their words, and then the nodes still to do. Assumes nothing.
use mathlib.Core.Path.{◌≡◌, refl, sym, ap, ap₂, ◌∙◌, subst}
use mathlib.Core.List.{List, [], ◌∷◌, ◌++◌, append_assoc, append-nil}
use Prim.Native.Nat.{ℕ, suc, ◌+◌, ◌-◌, ◌*◌, ◌^◌, ◌≤◌, ◌<◌}
use native.Mathlib.Omega.{arith}
use native.Mathlib.Nat.{add-zero}
use lib.ListN.{length, get_or, take, drop, length-drop}
use lib.Seq.{sets, length-sets, get_or-append-add, take-suc, take_all, drop-drop}
use Rattle.promise.specs.Over.{over}
use Rattle.lists.specs.Flat.{flat, upto}
use Rattle.routes.specs.declared.Route.{Route}
use Rattle.image_rules.specs.Node.{node_size, node_words, offset, node_start, bitmap_of, offset_of, store_nodes}
use Rattle.image_rules.specs.Breadth.{Slot, bitmap, children, leaf_ports, tree_words, tree_ports}
use Rattle.lists.proofs.Flat.{flat_append, upto_suc}
use Rattle.image_rules.proofs.Words.{length_words}
use Rattle.image_stretch.specs.declared.Stretch.{Stretch}
use Rattle.image_stretch.specs.declared.Free.{Free}
use Rattle.image_stretch.specs.Stretches.{root_of}
use Rattle.image_stretch.specs.Memory.{in_halves, pending, pending_at, free, build_node, used_after, memory}
use Rattle.image_stretch.specs.Needs.{Buildable, Queue}
use Rattle.image_stretch.proofs.Pending.{read_back}
use Rattle.image_stretch.proofs.QueueStep.{sets_seam, upto_le, flat_take, length_done, rest, memory_is, queue_step}

-- on the way: the nodes before node a are done, and their words and ports stand in the memories lent
pub record NodesDone (slots : Stretch → List (Slot Stretch)) (all : List Stretch) (nodes₀ ports₀ nodes ports : List ℕ) (a : ℕ) (st : Free) : Type 0 where
  pub done : ℕ
  pub number : a ≡ done + 1
  pub passed : done ≤ length all
  pub nodes_are : nodes ≡ memory slots all done nodes₀
  pub ports_are : ports ≡ flat (leaf_ports slots) (take done all) ++ drop (upto (leaf_ports slots) all done) ports₀
  pub counts : st ≡ free (used_after slots all done + 1) (upto (leaf_ports slots) all done)
  pub nodes_lent : length nodes ≡ length nodes₀
  pub ports_lent : length ports ≡ length ports₀

module _ (w : ℕ) (R : ℕ → Route) (s m n : ℕ) (slots : Stretch → List (Slot Stretch)) (all : List Stretch) (nodes₀ ports₀ : List ℕ)
    (r : Queue w R s m n slots all nodes₀ ports₀) where
  abbrev x : ℕ → Stretch
  x i = get_or all i (root_of n)

  abbrev base : ℕ → ℕ
  base i = upto (leaf_ports slots) all i

  abbrev written : ℕ → List ℕ
  written i = flat (leaf_ports slots) (take i all) ++ drop (base i) ports₀

  used_le : (i : ℕ) → used_after slots all i ≤ length all
  used_le i = omega (arith, ap length r.numbered, upto_le (children slots) all i)

  -- the words of node i hold it while it is still to do
  decoded : (i : ℕ) → i < length all → pending_at (memory slots all i nodes₀) (i + 1) ≡ x i
  decoded i h =
      let y = x i in
      let v : List ℕ = flat pending (rest slots all (root_of n) r.numbered r.before i h) ++ drop (used_after slots all i * node_size) nodes₀ in
      let d = tree_words slots (take i all) in
      let e : length d ≡ i * node_size = length_done slots all (root_of n) r.numbered r.before i h in
      let m : memory slots all i nodes₀ ≡ d ++ (pending y ++ v) = memory_is slots all (root_of n) r.numbered r.before i h nodes₀ in
      let z : node_start (i + 1) ≡ length d = omega (arith, e) in
      let at : (k : ℕ) → get_or (memory slots all i nodes₀) (node_start (i + 1) + k) 0 ≡ get_or (pending y ++ v) k 0
      = (λ k. ap₂ (λ (l : List ℕ) (j : ℕ). get_or l (j + k) 0) m z ∙ get_or-append-add d (pending y ++ v) k 0) in
      let p : bitmap_of (memory slots all i nodes₀) (i + 1) ≡ in_halves y.lo y.hi
      = ap (λ (j : ℕ). get_or (memory slots all i nodes₀) j 0) (sym (add-zero (node_start (i + 1)))) ∙ at 0 in
      let q : offset_of (memory slots all i nodes₀) (i + 1) ≡ in_halves y.depth y.best = at 1 in
      read_back (memory slots all i nodes₀) (i + 1) y (r.buildable i h).fits p q

  ports_next : (i : ℕ) → i < length all → sets (written i) (base i) (leaf_ports slots (x i)) ≡ written (suc i)
  ports_next i h =
      let u : base (suc i) ≡ base i + length (leaf_ports slots (x i)) = upto_suc (leaf_ports slots) all i (root_of n) h in
      let t : flat (leaf_ports slots) (take (suc i) all) ≡ flat (leaf_ports slots) (take i all) ++ leaf_ports slots (x i)
      = ap (flat (leaf_ports slots)) (take-suc all i (root_of n) h) ∙ flat_append (leaf_ports slots) (take i all) (x i ∷ [])
      ∙ ap (λ (l : List ℕ). flat (leaf_ports slots) (take i all) ++ l) (append-nil (leaf_ports slots (x i))) in
      sets_seam (flat (leaf_ports slots) (take i all)) (drop (base i) ports₀) (leaf_ports slots (x i)) (base i) (flat_take (leaf_ports slots) all i)
      (omega (arith, length-drop (base i) ports₀, u, upto_le (leaf_ports slots) all (suc i), r.ports_room))
      ∙ sym (append_assoc (flat (leaf_ports slots) (take i all)) (leaf_ports slots (x i)) (drop (length (leaf_ports slots (x i))) (drop (base i) ports₀)))
      ∙ ap₂ (λ (a b : List ℕ). a ++ b) (sym t) (drop-drop (length (leaf_ports slots (x i))) (base i) ports₀ ∙ ap (λ (m : ℕ). drop m ports₀) (sym u))

  pub queue_loop_none : {nodes : List ℕ} → nodes ≡ store_nodes nodes₀ 1 (pending (root_of n)) → length nodes ≡ length nodes₀
      → NodesDone slots all nodes₀ ports₀ nodes ports₀ 1 (free 2 0)
  queue_loop_none e l =
      let zk : upto (children slots) all 0 ≡ 0 = ap (λ (a : List Stretch). upto (children slots) a 0) r.numbered in
      let u : used_after slots all 0 ≡ 1 = ap (λ (m : ℕ). 1 + m) zk in
      let m : memory slots all 0 nodes₀ ≡ pending (root_of n) ++ drop node_size nodes₀
      = ap (λ (m : ℕ). flat pending (take (m - 0) all) ++ drop (m * node_size) nodes₀) u
      ∙ ap (λ (a : List Stretch). flat pending (take 1 a) ++ drop node_size nodes₀) r.numbered in
      let q : sets nodes₀ 0 (pending (root_of n)) ≡ pending (root_of n) ++ drop node_size nodes₀
      = sets_seam [] nodes₀ (pending (root_of n)) 0 refl (omega (arith, r.nodes_room, ap length r.numbered)) in
      let zb : base 0 ≡ 0 = ap (λ (a : List Stretch). upto (leaf_ports slots) a 0) r.numbered in
      record {
        done = 0;
        number = refl;
        passed = omega arith;
        nodes_are = e ∙ q ∙ sym m;
        ports_are = ap (λ (k : ℕ). drop k ports₀) (sym zb);
        counts = λ j. record { node = record { 0 = sym u j + 1 }; leaf = record { 0 = sym zb j } };
        nodes_lent = l;
        ports_lent = refl;
      }

  module _ (nodes ports : List ℕ) (a : ℕ) (st : Free) (v : NodesDone slots all nodes₀ ports₀ nodes ports a st) where
    abbrev i : ℕ
    i = v.done

    in_use : st.node.0 ≡ used_after slots all i + 1
    in_use = ap (λ (t : Free). t.node.0) v.counts

    leaves : st.leaf.0 ≡ base i
    leaves = ap (λ (t : Free). t.leaf.0) v.counts

    pub queue_loop_number : (0 < a) × (a ≤ length all + 1)
    queue_loop_number = (omega (arith, v.number), omega (arith, v.number, v.passed))

    -- node a is still to do
    module _ (h : a < st.node.0) where
      pub queue_loop_in : a ≤ length all
      queue_loop_in = omega (arith, in_use, used_le i, v.number)

      stored : i < length all
      stored = omega (arith, queue_loop_in, v.number)

      is_x : pending_at nodes a ≡ x i
      is_x = ap₂ (λ (l : List ℕ) (b : ℕ). pending_at l b) v.nodes_are v.number ∙ decoded i stored

      -- what building the node relies on
      pub queue_loop_room : (st.node.0 ≤ 2 ^ w) × Buildable w R s m (pending_at nodes a)
          × (node_start (st.node.0 + length (children slots (pending_at nodes a))) ≤ length nodes)
          × (st.leaf.0 + length (leaf_ports slots (pending_at nodes a)) ≤ length ports)
      queue_loop_room =
          let b = stored in
          let ek : length (children slots (pending_at nodes a)) ≡ length (children slots (x i)) = ap (λ (y : Stretch). length (children slots y)) is_x in
          let el : length (leaf_ports slots (pending_at nodes a)) ≡ length (leaf_ports slots (x i)) = ap (λ (y : Stretch). length (leaf_ports slots y)) is_x in (
            omega (arith, in_use, used_le i, r.nodes_fit),
            subst (Buildable w R s m) (sym is_x) (r.buildable i b),
            omega (arith, in_use, ek, upto_suc (children slots) all i (root_of n) b, used_le (suc i), r.nodes_room, v.nodes_lent),
            omega (arith, leaves, el, upto_suc (leaf_ports slots) all i (root_of n) b, upto_le (leaf_ports slots) all (suc i), r.ports_room, v.ports_lent),
          )

      pub queue_loop_more : {nodes' ports' : List ℕ} {st' : Free} {b : ℕ} → b ≡ a + 1
          → st' ≡ free (st.node.0 + length (children slots (pending_at nodes a))) (st.leaf.0 + length (leaf_ports slots (pending_at nodes a)))
          → nodes' ≡ build_node slots nodes a st.node.0 (pending_at nodes a)
          → ports' ≡ sets ports st.leaf.0 (leaf_ports slots (pending_at nodes a))
          → NodesDone slots all nodes₀ ports₀ nodes' ports' b st'
      queue_loop_more {nodes'} {ports'} {st'} {b} nb ea eb ec =
          let g = stored in
          let e = is_x in
          let room : used_after slots all (suc i) * node_size ≤ length nodes₀ = omega (arith, used_le (suc i), r.nodes_room) in
          let un : used_after slots all i + 1 + length (children slots (x i)) ≡ used_after slots all (suc i) + 1 = omega (arith, upto_suc (children slots) all i (root_of n) g) in
          let ul : base i + length (leaf_ports slots (x i)) ≡ base (suc i) = sym (upto_suc (leaf_ports slots) all i (root_of n) g) in
          let pn : st.node.0 + length (children slots (pending_at nodes a)) ≡ used_after slots all (suc i) + 1
          = ap₂ (λ (p : ℕ) (y : Stretch). p + length (children slots y)) in_use e ∙ un in
          let pl : st.leaf.0 + length (leaf_ports slots (pending_at nodes a)) ≡ base (suc i)
          = ap₂ (λ (p : ℕ) (y : Stretch). p + length (leaf_ports slots y)) leaves e ∙ ul in
          let tn : nodes' ≡ memory slots all (suc i) nodes₀
          = eb ∙ ap₂ (λ (y : Stretch) (p : ℕ). build_node slots nodes a p y) e in_use
          ∙ ap₂ (λ (b : ℕ) (m : List ℕ). build_node slots m b (used_after slots all i + 1) (x i)) v.number v.nodes_are
          ∙ queue_step slots all (root_of n) r.numbered r.before i g nodes₀ room in
          let tp : ports' ≡ written (suc i)
          = ec ∙ ap₂ (λ (y : Stretch) (p : ℕ). sets ports p (leaf_ports slots y)) e leaves
          ∙ ap (λ (m : List ℕ). sets m (base i) (leaf_ports slots (x i))) v.ports_are ∙ ports_next i g in
          let lt : length (build_node slots nodes a st.node.0 (pending_at nodes a)) ≡ length nodes
          = length-sets (sets nodes (node_start st.node.0) (flat pending (children slots (pending_at nodes a)))) (node_start a)
          (node_words (bitmap (slots (pending_at nodes a))) (offset st.node.0 a))
          ∙ length-sets nodes (node_start st.node.0) (flat pending (children slots (pending_at nodes a))) in
          let ln : length nodes' ≡ length nodes = ap length eb ∙ lt in
          let lp : length ports' ≡ length ports = ap length ec ∙ length-sets ports st.leaf.0 (leaf_ports slots (pending_at nodes a)) in
          record {
            done = suc i;
            number = omega (arith, v.number, nb);
            passed = omega (arith, g);
            nodes_are = tn;
            ports_are = tp;
            counts = ea ∙ (λ j. record { node = record { 0 = pn j }; leaf = record { 0 = pl j } });
            nodes_lent = ln ∙ v.nodes_lent;
            ports_lent = lp ∙ v.ports_lent;
          }

    pub queue_loop_all : st.node.0 ≤ a
        → (nodes ≡ over (tree_words slots all) nodes₀) × (ports ≡ over (tree_ports slots all) ports₀)
    queue_loop_all h =
        let no : (i < length all → ⊥) = (λ k. omega (arith, r.before i k, in_use, v.number)) in
        let e : i ≡ length all = omega (arith, v.passed) in
        let t : take i all ≡ all = take_all i all (omega arith) in
        let u : used_after slots all i ≡ length all
        = omega (arith, flat_take (children slots) all i, ap (λ (l : List Stretch). length (flat (children slots) l)) t, ap length r.numbered) in
        let z : used_after slots all i - i ≡ 0 = omega arith in
        let lw : used_after slots all i * node_size ≡ length (tree_words slots all) = ap (λ (k : ℕ). k * node_size) u ∙ sym (length_words slots 1 2 all) in
        let lb : base i ≡ length (flat (leaf_ports slots) all)
        = sym (flat_take (leaf_ports slots) all i) ∙ ap (λ (l : List Stretch). length (flat (leaf_ports slots) l)) t in (
          v.nodes_are
              ∙ ap₂ (λ (l : List Stretch) (k : ℕ). tree_words slots l ++ flat pending (take k (drop i all)) ++ drop (used_after slots all i * node_size) nodes₀) t z
              ∙ ap₂ (λ (c : List ℕ) (k : ℕ). c ++ drop k nodes₀) (append-nil (tree_words slots all)) lw,
          v.ports_are ∙ ap₂ (λ (l : List Stretch) (k : ℕ). flat (leaf_ports slots) l ++ drop k ports₀) t lb,
        )
