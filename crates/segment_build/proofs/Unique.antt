-- Any two results that a promise of this crate allows coincide. Assumes nothing.
use Rattle.std.proofs.Common.{Result, sym, ap, ◌∙◌}
use Rattle.promise.specs.Determined.{Determined}
use Rattle.refusals.specs.declared.Refusal.{Refusal}
use Rattle.segment_rules.specs.declared.Written.{Written}
use Rattle.segment_rules.specs.Build.{Stores, Left, stores}
use Rattle.segment_rules.proofs.Told.{built_one}
use Rattle.segment_build.proofs.build.Kinds as build_kinds
use Rattle.segment_build.proofs.build.Reads as build_reads

-- what is returned, and what the stores are left with
build_unique : Determined 5 build_kinds.ps build_kinds.r build_reads.Post {X = Result Written Refusal × Stores}
    (λ κs x s. (x, stores s.1.0.now s.1.1.0.now s.1.1.1.0.now s.1.1.1.1.0.now))
build_unique κs a x y s t p q =
    let e = p ∙ sym q in
    λ i. (built_one x y (ap (λ (l : Left). l.built) e) i, ap (λ (l : Left). l.stores) e i)
