-- What the builder's loop relies on holds for a valid list where there is room for its image. Assumes nothing.
use mathlib.Core.Path.{◌≡◌, refl, sym, ap, ◌∙◌}
use mathlib.Core.List.{List, [], ◌++◌}
use Prim.Native.Nat.{ℕ, ◌+◌, ◌-◌, ◌*◌, ◌/◌, ◌^◌, ◌≤◌, ◌<◌}
use native.Mathlib.Omega.{arith}
use lib.ListN.{length, drop}
use lib.Seq.{sets, drop-append-add, drop-drop}
use Rattle.promise.specs.Over.{over}
use Rattle.routes.specs.Routes.{route_at, ValidList}
use Rattle.routes.specs.declared.Route.{Route}
use Rattle.image_rules.specs.Node.{node_size, store_nodes}
use Rattle.image_rules.specs.Breadth.{tree_ports}
use Rattle.image_rules.specs.Image.{image_paths, image_nodes, image_ports, routes_of}
use Rattle.image_rules.specs.Lookup.{Strided}
use Rattle.image_rules.proofs.Image.{ports_count}
use Rattle.image_rules.proofs.Listed.{valid_imaged}
use Rattle.image_stretch.specs.declared.Stretch.{Stretch}
use Rattle.image_stretch.specs.Stretches.{stretch_slots, root_of, stretches}
use Rattle.image_stretch.specs.Count.{nodes_count}
use Rattle.image_stretch.specs.Memory.{pending}
use Rattle.image_stretch.specs.Needs.{Buildable, Queue}
use Rattle.bits.proofs.Prefix.{start}
use Rattle.routes.proofs.Scan.{last_match_le}
use Rattle.image_stretch.proofs.Trees.{Stands, fits_of, length_stretches, stretches_image, stretches_numbered, stretches_before, stretches_stand}
use Rattle.image_stretch.proofs.Parting.{stands_parted}
use Rattle.image_stretch.proofs.Counting.{count_is}
use Rattle.image_stretch.proofs.QueueStep.{sets_seam}

module _ (w s : ℕ) (list : List ℕ) (n : ℕ) (st : Strided w s) (ok : ValidList w (route_at list) n) where
  abbrev R : ℕ → Route
  R = route_at list

  stands_buildable : (k : ℕ) (x : Stretch) → Stands w s R n k x → Buildable w R s (2 ^ s) x
  stands_buildable k x t = record {
    fits = record {
      ordered = t.place.rows;
      rows_fit = omega (arith, t.place.most, ok.few);
      port_fits = omega (arith, t.place.best, last_match_le w R n ok (start w x.depth t.bits_at) x.lo (omega (arith, t.place.rows, t.place.most)));
    };
    deep = fits_of w s R n ok k x t;
    parted = stands_parted w s R n ok k x t;
  }

  -- the image's sizes, as they are counted
  pub sizes : (length (image_paths s (w / s) (routes_of w R n)) ≡ nodes_count w R n s)
      × (length (image_nodes s (w / s) (routes_of w R n)) ≡ nodes_count w R n s * node_size)
      × (length (image_ports s (w / s) (routes_of w R n)) ≡ nodes_count w R n s * (2 ^ s - 1) + 1)
  sizes =
      let c = count_is w s R n st ok in
      let p = ports_count w s (routes_of w R n) st (valid_imaged w R n ok) in (
        sym c,
        p.0 ∙ ap (λ (k : ℕ). k * node_size) (sym c),
        p.1 ∙ ap (λ (k : ℕ). k * (2 ^ s - 1) + 1) (sym c),
      )

  pub queue_of : (nodes ports : List ℕ) → nodes_count w R n s * node_size ≤ length nodes
      → nodes_count w R n s * (2 ^ s - 1) + 1 ≤ length ports → nodes_count w R n s < 2 ^ w
      → Queue w R s (2 ^ s) n (stretch_slots w R s (2 ^ s)) (stretches w R s n) nodes ports
  queue_of nodes ports rn rp few =
      let l : length (stretches w R s n) ≡ nodes_count w R n s = length_stretches w s R n ok st ∙ sizes.0 in
      let m : length (tree_ports (stretch_slots w R s (2 ^ s)) (stretches w R s n)) ≡ nodes_count w R n s * (2 ^ s - 1) + 1
      = ap length (stretches_image w s R n ok st).1 ∙ sizes.2 in
      record {
        numbered = stretches_numbered w s R n ok st;
        before = stretches_before w s R n ok st;
        nodes_room = omega (arith, l);
        ports_room = omega (arith, m);
        nodes_fit = omega (arith, l);
        buildable = stretches_stand w s R n ok st (Buildable w R s (2 ^ s)) stands_buildable;
      }

-- the root put first, and put again
pub root_again : (nodes : List ℕ) (n : ℕ) → node_size ≤ length nodes
    → store_nodes nodes 1 (pending (root_of n)) ≡ store_nodes (store_nodes nodes 1 (pending (root_of n))) 1 (pending (root_of n))
root_again nodes n h =
    let e : sets nodes 0 (pending (root_of n)) ≡ pending (root_of n) ++ drop node_size nodes = sets_seam [] nodes (pending (root_of n)) 0 refl h in
    e ∙ sym (ap (λ (l : List ℕ). sets l 0 (pending (root_of n))) e
    ∙ sets_seam [] (pending (root_of n) ++ drop node_size nodes) (pending (root_of n)) 0 refl (omega arith))

-- what is written over the root leaves the rest as it was lent
pub over_root : (out nodes : List ℕ) (n : ℕ) → node_size ≤ length out → node_size ≤ length nodes
    → over out (store_nodes nodes 1 (pending (root_of n))) ≡ over out nodes
over_root out nodes n h k =
    let e : length out ≡ node_size + (length out - node_size) = omega arith in
    ap (λ (l : List ℕ). out ++ drop (length out) l) (sets_seam [] nodes (pending (root_of n)) 0 refl k)
    ∙ ap (λ (m : ℕ). out ++ drop m (pending (root_of n) ++ drop node_size nodes)) e
    ∙ ap (λ (l : List ℕ). out ++ l)
    (drop-append-add (pending (root_of n)) (drop node_size nodes) (length out - node_size)
    ∙ drop-drop (length out - node_size) node_size nodes ∙ ap (λ (m : ℕ). drop m nodes) (sym e))
