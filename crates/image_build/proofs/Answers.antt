-- What the build answers at each return. Assumes nothing.
use Rattle.std.proofs.Common.{Err}
use mathlib.Core.Path.{◌≡◌, sym, ap, ap₂, ◌∙◌}
use mathlib.Core.Bool.{true, false, and-false}
use mathlib.Core.List.{List}
use Prim.Native.Nat.{ℕ, ◌+◌, ◌-◌, ◌*◌, ◌/◌, ◌^◌, ◌≤◌, ◌<◌}
use native.Mathlib.Omega.{arith}
use native.Mathlib.Nat.{mul-le-mul}
use lib.Dec.{leb}
use lib.ListN.{length}
use borrow.Author.Tests.{ne_eqb, le-leb, lt-leb}
use Rattle.promise.specs.Over.{over}
use Rattle.refusals.specs.Refusals.{number_of, refused, accepted, refusal_at}
use Rattle.refusals.specs.declared.Fault.TheVariants.{NoRoom, WrongStride}
use Rattle.refusals.specs.declared.Refusal.{Refusal}
use Rattle.refusals.proofs.Numbers.{number_ne0}
use Rattle.routes.specs.Routes.{route_at, route_count, ValidList, Words}
use Rattle.routes.specs.Check.{list_check}
use Rattle.refusals.specs.declared.Answer.{Answer}
use Rattle.routes.proofs.Check.{accepted_valid}
use Rattle.image_rules.specs.Node.{node_size}
use Rattle.image_rules.specs.Image.{image_paths, image_nodes, image_ports}
use Rattle.image_rules.specs.Lookup.{is_stride, Strided}
use Rattle.image_numbers.proofs.Slots.{stride_of_lem}
use Rattle.image_stretch.specs.Count.{nodes_count}
use Rattle.image_stretch.proofs.Room.{sizes}
use Rattle.image_count.specs.Counted.{counted_nodes, most_nodes}
use Rattle.image_count.proofs.Few.{nodes_few_lem, counted_is, counted_few}
use Rattle.image_build.specs.Build.{left, built_of, refused_build, done_build, list_routes, image_into, build_image}
use Rattle.image_build.specs.Needs.{most_slots, ImageRoom}

-- the nodes and the ports are few
pub leaves_few : (w : ℕ) (list : List ℕ) (s count slots : ℕ) → count ≡ counted_nodes w list s → slots ≤ most_slots
    → (count ≤ most_nodes w) × (count * (slots - 1) ≤ most_nodes w * (most_slots - 1))
leaves_few w list s count slots e b =
    let a : count ≤ most_nodes w = omega (arith, e, counted_few w list s) in
    let l : slots - 1 ≤ most_slots - 1 = omega arith in (a, mul-le-mul a l)

module _ (w s : ℕ) (list nodes ports : List ℕ) where
  pub build_wrong_stride : is_stride s ≡ false → (r : Refusal) → r ≡ refusal_at WrongStride 0 → left (built_of (Err r)) nodes ports ≡ build_image w s list nodes ports
  unfolding build_image
  build_wrong_stride t r e = rw t (ap (λ (x : Refusal). left (built_of (Err x)) nodes ports) e)

  -- where the stride is right, by the list's check
  module _ (t : is_stride s ≡ true) where
    pub build_refused : (r : Refusal) → refused (number_of r.fault) r.place ≡ list_check w list → left (built_of (Err r)) nodes ports ≡ build_image w s list nodes ports
    unfolding build_image
    build_refused r is =
        let n : (list_check w list).number ≡ 0 → ⊥ = λ z. number_ne0 r.fault (ap (λ (a : Answer). a.number) is ∙ z) in
        rw (t, ne_eqb (list_check w list).number 0 n) (ap (λ (a : Answer). left (refused_build a.number a.place) nodes ports) is)

    module _ (ok : accepted 0 ≡ list_check w list) where
      into : build_image w s list nodes ports ≡ image_into s (w / s) (list_routes w list) nodes ports
      unfolding build_image
      into = rw (t, ← ok)

      -- a list of words that is accepted is valid
      accepted_list : Words w list → ValidList w (route_at list) (route_count list)
      accepted_list fits = accepted_valid w list fits (sym (ap (λ (a : Answer). a.number) ok))

      module _ (st : Strided w s) (fits : Words w list) (count slots : ℕ) (counted : count ≡ counted_nodes w list s) (are : slots ≡ 2 ^ s) where
        abbrev k : ℕ
        k = w / s

        -- the image's own number of nodes
        exact : count ≡ nodes_count w (route_at list) (route_count list) s
        exact = counted ∙ counted_is w list s t (accepted_list fits).few

        nodes_are_lem : length (image_nodes s k (list_routes w list)) ≡ count * node_size
        nodes_are_lem = (sizes w s list (route_count list) st (accepted_list fits)).1 ∙ ap (λ (m : ℕ). m * node_size) (sym exact)

        ports_are_lem : length (image_ports s k (list_routes w list)) ≡ count * (slots - 1) + 1
        ports_are_lem =
            (sizes w s list (route_count list) st (accepted_list fits)).2
            ∙ ap₂ (λ (m n : ℕ). m * (n - 1) + 1) (sym exact) (sym are)

        -- 9 for nodes
        pub build_no_nodes : length nodes < count * node_size → (r : Refusal) → r ≡ refusal_at NoRoom 0 → left (built_of (Err r)) nodes ports ≡ build_image w s list nodes ports
        build_no_nodes h r e =
            let u : length nodes < length (image_nodes s k (list_routes w list)) = omega (arith, nodes_are_lem) in
            sym (into ∙ rw (lt-leb (length (image_nodes s k (list_routes w list))) (length nodes) u) (ap (λ (x : Refusal). left (built_of (Err x)) nodes ports) (sym e)))

        -- 9 for ports
        pub build_no_ports : length ports < count * (slots - 1) + 1 → (r : Refusal) → r ≡ refusal_at NoRoom 0 → left (built_of (Err r)) nodes ports ≡ build_image w s list nodes ports
        build_no_ports h r e =
            let u : length ports < length (image_ports s k (list_routes w list)) = omega (arith, ports_are_lem) in
            sym (into
            ∙ rw (lt-leb (length (image_ports s k (list_routes w list))) (length ports) u, and-false (leb (length (image_nodes s k (list_routes w list))) (length nodes)))
            (ap (λ (x : Refusal). left (built_of (Err x)) nodes ports) (sym e)))

        pub build_done : count * node_size ≤ length nodes → count * (slots - 1) + 1 ≤ length ports
            → {nodes' ports' : List ℕ} → nodes' ≡ over (image_nodes s k (list_routes w list)) nodes → ports' ≡ over (image_ports s k (list_routes w list)) ports
            → left (done_build count (count * (slots - 1) + 1)) nodes' ports' ≡ build_image w s list nodes ports
        build_done h l {nodes'} {ports'} a c =
            let u : length (image_nodes s k (list_routes w list)) ≤ length nodes = omega (arith, nodes_are_lem) in
            let v : length (image_ports s k (list_routes w list)) ≤ length ports = omega (arith, ports_are_lem) in
            let m : count ≡ length (image_paths s k (list_routes w list)) = exact ∙ sym (sizes w s list (route_count list) st (accepted_list fits)).0 in
            let d : done_build count (count * (slots - 1) + 1) ≡ done_build (length (image_paths s k (list_routes w list))) (length (image_ports s k (list_routes w list)))
            = ap₂ (λ (x y : ℕ). done_build x y) m (sym ports_are_lem) in
            sym (into
            ∙ rw (le-leb (length (image_nodes s k (list_routes w list))) (length nodes) u, le-leb (length (image_ports s k (list_routes w list))) (length ports) v)
            (sym (λ i. record { built = d i; nodes = a i; ports = c i })))

        -- the room, as the code has tested it
        pub room_of : slots ≤ most_slots → most_nodes w < 2 ^ w → count * node_size ≤ length nodes → count * (slots - 1) + 1 ≤ length ports
            → ImageRoom w list (route_count list) s slots nodes ports
        room_of few hold a b = record {
          stride_of = stride_of_lem s t;
          slots_are = are;
          slots_few = few;
          valid = accepted_list fits;
          nodes_fit = omega (arith, exact);
          ports_fit = let m : count * (slots - 1) ≡ nodes_count w (route_at list) (route_count list) s * (slots - 1) = ap (λ (k : ℕ). k * (slots - 1)) exact in omega (arith, m);
          nodes_few = nodes_few_lem w (route_at list) (route_count list) s (accepted_list fits).few;
          words_hold = hold;
        }
