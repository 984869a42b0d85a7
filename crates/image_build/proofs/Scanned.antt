-- What a build is there for: after it, lookups give the plain scan; a refusal writes nothing. Assumes nothing.
use mathlib.Core.Path.{◌≡◌, ap₂, ◌∙◌}
use mathlib.Core.Bool.{Bool, true, false}
use mathlib.Core.Logic.{◌⊎◌, inl, inr, ⊎_elim}
use mathlib.Core.List.{List}
use Prim.Native.Nat.{ℕ, ◌/◌}
use native.Mathlib.Omega.{arith}
use lib.Dec.{eqb, leb}
use lib.ListN.{length}
use borrow.Author.Tests.{eqb-true, eqb-false}
use Rattle.lists.proofs.Tests.{way}
use Rattle.promise.specs.Over.{over}
use Rattle.routes.specs.Routes.{route_at, route_count}
use Rattle.routes.specs.Check.{list_check}
use Rattle.routes.proofs.Check.{accepted_valid}
use Rattle.image_rules.specs.Image.{image_nodes, image_ports}
use Rattle.image_rules.specs.Lookup.{is_stride, lookup_words}
use Rattle.image_rules.proofs.Listed.{lookup_is_list_scan}
use Rattle.image_build.specs.Build.{list_routes, build_image}
use Rattle.image_build.specs.Theorems.{BuiltIsScan, RefusalWritesNothing}

-- done, the memories hold the image of a list that was accepted; refused, they are as they were
record Finished (w s : ℕ) (list nodes ports : List ℕ) : Type 0 where
  done : (build_image w s list nodes ports).built.number ≡ 0
  accepted : (list_check w list).number ≡ 0
  nodes_are : (build_image w s list nodes ports).nodes ≡ over (image_nodes s (w / s) (list_routes w list)) nodes
  ports_are : (build_image w s list nodes ports).ports ≡ over (image_ports s (w / s) (list_routes w list)) ports

record Refused (w s : ℕ) (list nodes ports : List ℕ) : Type 0 where
  wrong : (build_image w s list nodes ports).built.number ≡ 0 → ⊥
  nodes_are : (build_image w s list nodes ports).nodes ≡ nodes
  ports_are : (build_image w s list nodes ports).ports ≡ ports

module _ (w s : ℕ) (list nodes ports : List ℕ) where
  abbrev nodes_fit : Bool
  nodes_fit = leb (length (image_nodes s (w / s) (list_routes w list))) (length nodes)

  abbrev ports_fit : Bool
  ports_fit = leb (length (image_ports s (w / s) (list_routes w list))) (length ports)

  finished_or_refused : Finished w s list nodes ports ⊎ Refused w s list nodes ports
  unfolding build_image
  finished_or_refused = by (way (is_stride s)) (way (eqb (list_check w list).number 0)) (way nodes_fit) (way ports_fit)
    where
      by : (is_stride s ≡ true) ⊎ (is_stride s ≡ false) → (eqb (list_check w list).number 0 ≡ true) ⊎ (eqb (list_check w list).number 0 ≡ false)
          → (nodes_fit ≡ true) ⊎ (nodes_fit ≡ false) → (ports_fit ≡ true) ⊎ (ports_fit ≡ false)
          → Finished w s list nodes ports ⊎ Refused w s list nodes ports
      by (inr a) b c d = inr record { wrong = λ z. omega (arith, rw a at z); nodes_are = rw a; ports_are = rw a }
      by (inl a) (inr b) c d = inr record { wrong = λ z. eqb-false (list_check w list).number 0 b (rw (a, b) at z); nodes_are = rw (a, b); ports_are = rw (a, b) }
      by (inl a) (inl b) (inr c) d = inr record { wrong = λ z. omega (arith, rw (a, b, c) at z); nodes_are = rw (a, b, c); ports_are = rw (a, b, c) }
      by (inl a) (inl b) (inl c) (inr d) = inr record { wrong = λ z. omega (arith, rw (a, b, c, d) at z); nodes_are = rw (a, b, c, d); ports_are = rw (a, b, c, d) }
      by (inl a) (inl b) (inl c) (inl d) = inl record { done = rw (a, b, c, d); accepted = eqb-true (list_check w list).number 0 b; nodes_are = rw (a, b, c, d); ports_are = rw (a, b, c, d) }

pub built_is_scan : BuiltIsScan
built_is_scan w s list nodes ports a st fits h z =
    ⊎_elim
    (λ (f : Finished w s list nodes ports).
    ap₂ (λ (ns ps : List ℕ). lookup_words w s ns ps a) f.nodes_are f.ports_are
    ∙ lookup_is_list_scan w s (route_at list) (route_count list) nodes ports a st (accepted_valid w list fits f.accepted) h)
    (λ (r : Refused w s list nodes ports). absurd (r.wrong z))
    (finished_or_refused w s list nodes ports)

pub refusal_writes_nothing : RefusalWritesNothing
refusal_writes_nothing w s list nodes ports f = by (finished_or_refused w s list nodes ports)
  where
    by : Finished w s list nodes ports ⊎ Refused w s list nodes ports
        → ((build_image w s list nodes ports).nodes ≡ nodes) × ((build_image w s list nodes ports).ports ≡ ports)
    by (inl d) = absurd (f d.done)
    by (inr r) = (r.nodes_are, r.ports_are)
