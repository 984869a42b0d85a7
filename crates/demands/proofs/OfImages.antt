-- Demand 1 of the calls on an image. Assumes nothing.
use mathlib.Core.Path.{◌≡◌, refl}
use mathlib.Core.Logic.{◌⊎◌}
use mathlib.Core.Bool.{Bool, true, false, cond, ◌&&◌, true≢false}
use mathlib.Core.List.{List}
use Prim.Native.Nat.{ℕ, zero, suc, ◌+◌, ◌-◌, ◌*◌, ◌/◌, ◌^◌, ◌<◌, ◌≤◌}
use native.Mathlib.Omega.{arith}
use lib.Dec.{eqb, leb, ltb}
use lib.ListN.{length, get_or}
use borrow.Author.Tests.{ne_eqb, eqb-true, eqb-false}
use Rattle.promise.specs.Over.{over}
use Rattle.bits.specs.Bitmap.{slot_bit}
use Rattle.refusals.specs.Refusals.{no_room, not_in_order, wrong_stride, found, lost}
use Rattle.routes.specs.Bounds.{last_port}
use Rattle.routes.specs.Check.{list_check}
use Rattle.refusals.specs.declared.Answer.{Answer}
use Rattle.image_rules.specs.Node.{node_count, is_node, bitmap_of, next_of, is_based}
use Rattle.image_rules.specs.Image.{image_paths, image_nodes, image_ports}
use Rattle.image_rules.specs.Lookup.{address_slot, leaf_of, child_at, leaf_at, is_sound, walk, is_stride, lookup_words}
use Rattle.image_rules.specs.NodesRead.{Unsound}
use Rattle.image_build.specs.Build.{Left, left, refused_build, done_build, list_routes, image_into, build_image}
use Rattle.demands.specs.Lamp.{shows, done}
use Rattle.demands.specs.Checks.{image_checks, node_checks, image_lookup_checks}
use Rattle.demands.proofs.Tells.{Tells, tells_as, tells_le, tells_lt, tells_eq, tells_and}
use Rattle.demands.proofs.Shown.{View, On, looking, on_test, on_whether}
use Rattle.demands.proofs.Listed.{on_list}

-- "stride not 1, 2 or 4"
pub tells_stride : (s : ℕ) → Tells (is_stride s) ((s ≡ 1 → ⊥) × (s ≡ 2 → ⊥) × (s ≡ 4 → ⊥))
tells_stride s = go (eqb s 1) (eqb s 2) (eqb s 4) (tells_eq s 1) (tells_eq s 2) (tells_eq s 4)
  where
    go : (a b c : Bool) → Tells a (s ≡ 1 → ⊥) → Tells b (s ≡ 2 → ⊥) → Tells c (s ≡ 4 → ⊥)
        → Tells (cond a true (cond b true c)) ((s ≡ 1 → ⊥) × (s ≡ 2 → ⊥) × (s ≡ 4 → ⊥))
    go true b c x y z = record { fine = λ _ none. x.fine refl none.0; wrong = λ e. absurd (true≢false e) }
    go false true c x y z = record { fine = λ _ none. y.fine refl none.1; wrong = λ e. absurd (true≢false e) }
    go false false c x y z = record { fine = λ e none. z.fine e none.2; wrong = λ e. (x.wrong refl, y.wrong refl, z.wrong e) }

-- what is seen of a build, and of a lookup
abbrev pub building : List ℕ → List ℕ → View
building nodes ports = record {
  Seen = Left;
  number = λ o. o.built.number;
  place = λ o. o.built.place;
  Kept = λ o. (o.built.nodes ≡ 0) × (o.built.ports ≡ 0) × (o.nodes ≡ nodes) × (o.ports ≡ ports);
}

refused_on : (nodes ports : List ℕ) (m p : ℕ) → On (building nodes ports) (shows m p) (left (refused_build m p) nodes ports)
refused_on nodes ports m p = record { exact = (refl, refl); kept = λ _. (refl, refl, refl, refl) }

pub image_build_refuses : (w s : ℕ) (list nodes ports : List ℕ)
    → On (building nodes ports) (image_checks w s list nodes ports) (build_image w s list nodes ports)
unfolding build_image
image_build_refuses w s list nodes ports =
    let v = building nodes ports in
    let ns = image_nodes s (w / s) (list_routes w list) in
    let ps = image_ports s (w / s) (list_routes w list) in
    let without_room = left (refused_build no_room 0) nodes ports in
    let made : Answer → Left = λ c. cond (eqb c.number 0) (image_into s (w / s) (list_routes w list) nodes ports) (left (refused_build c.number c.place) nodes ports) in
    on_test v (is_stride s) _ (tells_stride s) wrong_stride 0 _ (λ b. cond b (made (list_check w list)) (left (refused_build wrong_stride 0) nodes ports))
    (on_list v made (λ m p some. rw (ne_eqb m 0 (λ e. omega arith)) (refused_on nodes ports m p)) w list _
    (on_test v (leb (length ns) (length nodes) && leb (length ps) (length ports)) _
    (tells_and (leb (length ns) (length nodes)) (leb (length ps) (length ports)) _ _ (tells_le (length ns) (length nodes)) (tells_le (length ps) (length ports)))
    no_room 0 done
    (λ b. cond b (left (done_build (length (image_paths s (w / s) (list_routes w list))) (length ps)) (over ns nodes) (over ps ports)) without_room)
    (record { exact = (refl, refl); kept = λ wrong. absurd (wrong refl) }) (refused_on nodes ports no_room 0)))
    (refused_on nodes ports wrong_stride 0)

lost_on : (m reads : ℕ) → On looking (shows m 0) (lost m reads)
lost_on m reads = record { exact = (refl, refl); kept = λ _. refl }

tells_node : (nodes : List ℕ) (i : ℕ) → Tells (is_node nodes i) ((i ≡ 0) ⊎ (node_count nodes < i))
tells_node nodes i =
    tells_and (ltb 0 i) (leb i (node_count nodes)) (i ≡ 0) (node_count nodes < i)
    (tells_as (ltb 0 i) (i ≤ 0) (i ≡ 0) (λ h. omega arith) (λ h. omega arith) (tells_lt 0 i)) (tells_le i (node_count nodes))

tells_sound : (s : ℕ) (nodes : List ℕ) (i : ℕ) → Tells (is_sound s nodes i) (Unsound s nodes i)
tells_sound s nodes i =
    let next = next_of nodes i in
    let slots = 2 ^ s * (i - 1) in
    tells_and (ltb (bitmap_of nodes i) (2 ^ (2 ^ s))) (is_based (2 ^ s) nodes i) (2 ^ (2 ^ s) ≤ bitmap_of nodes i) ((next < 2) ⊎ (slots + 2 < next))
    (tells_lt (bitmap_of nodes i) (2 ^ (2 ^ s)))
    (tells_and (leb 2 next) (leb (next - 2) slots) (next < 2) (slots + 2 < next) (tells_le 2 next)
    (tells_as (leb (next - 2) slots) (slots < next - 2) (slots + 2 < next) (λ h. omega arith) (λ h. omega arith) (tells_le (next - 2) slots)))

pub nodes_refuse : (s : ℕ) (nodes ports : List ℕ) (a k i reads : ℕ)
    → On looking (node_checks s nodes ports a k i) (walk s nodes ports a k i reads)
unfolding walk
nodes_refuse s nodes ports a zero i reads = lost_on not_in_order reads
nodes_refuse s nodes ports a (suc k) i reads =
    let map = bitmap_of nodes i in
    let bit = slot_bit (2 ^ s) map (address_slot s a k) in
    let leaf = leaf_of (2 ^ s) nodes i (address_slot s a k) in
    let port = get_or ports leaf 0 in
    let below = walk s nodes ports a k (child_at (2 ^ s) nodes i (address_slot s a k)) (reads + 1) in
    let slot = cond (eqb bit 1) (leaf_at ports leaf (reads + 1)) below in
    on_test looking (is_node nodes i) _ (tells_node nodes i) not_in_order 0 _
    (λ b. cond b (cond (is_sound s nodes i) slot (lost not_in_order (reads + 1))) (lost not_in_order reads))
    (on_test looking (is_sound s nodes i) _ (tells_sound s nodes i) not_in_order 0 _ (λ b. cond b slot (lost not_in_order (reads + 1)))
    (on_whether looking (eqb bit 1) (bit ≡ 1) _ _ (λ b. cond b (leaf_at ports leaf (reads + 1)) below) (eqb-true bit 1) (eqb-false bit 1)
    (on_test looking (ltb leaf (length ports)) _ (tells_lt leaf (length ports)) not_in_order 0 _
    (λ b. cond b (cond (leb port last_port) (found port (reads + 1)) (lost not_in_order (reads + 1))) (lost not_in_order (reads + 1)))
    (on_test looking (leb port last_port) _ (tells_le port last_port) not_in_order 0 done
    (λ b. cond b (found port (reads + 1)) (lost not_in_order (reads + 1)))
    (record { exact = (refl, refl); kept = λ wrong. absurd (wrong refl) }) (lost_on not_in_order (reads + 1)))
    (lost_on not_in_order (reads + 1)))
    (nodes_refuse s nodes ports a k (child_at (2 ^ s) nodes i (address_slot s a k)) (reads + 1)))
    (lost_on not_in_order (reads + 1)))
    (lost_on not_in_order reads)

pub image_lookup_refuses : (w s : ℕ) (nodes ports : List ℕ) (a : ℕ) → On looking (image_lookup_checks w s nodes ports a) (lookup_words w s nodes ports a)
unfolding lookup_words
image_lookup_refuses w s nodes ports a =
    on_test looking (is_stride s) _ (tells_stride s) wrong_stride 0 _ (λ b. cond b (walk s nodes ports a (w / s) 1 0) (lost wrong_stride 0))
    (nodes_refuse s nodes ports a (w / s) 1 0) (lost_on wrong_stride 0)
