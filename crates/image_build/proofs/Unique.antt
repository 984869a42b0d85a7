-- Any two results that a promise of this crate allows coincide, with both memories lent. Assumes nothing.
use Rattle.std.proofs.Common.{◌≡◌, sym, ap, ◌∙◌, Result, Ok, Err}
use Rattle.promise.specs.Determined.{Determined}
use Rattle.refusals.specs.declared.Refusal.{Refusal}
use Rattle.refusals.proofs.Numbers.{number_ne0, number_one}
use Rattle.image_build.specs.declared.Built.{Built}
use Rattle.image_build.specs.declared.Written.{Written}
use Rattle.image_build.specs.Build.{Left, left, built_of}
use Rattle.image_build.proofs.build.Kinds as build_kinds
use Rattle.image_build.proofs.build.Reads as build_reads

-- what C is told of a build tells what it returned
built_one : (x y : Result Written Refusal) → built_of x ≡ built_of y → x ≡ y
built_one (Ok a) (Ok b) e = ap Ok (λ i. record { nodes = (ap (λ (z : Built). z.nodes) e) i; ports = (ap (λ (z : Built). z.ports) e) i })
built_one (Ok a) (Err b) e = absurd (number_ne0 b.fault (sym (ap (λ (z : Built). z.number) e)))
built_one (Err a) (Ok b) e = absurd (number_ne0 a.fault (ap (λ (z : Built). z.number) e))
built_one (Err a) (Err b) e =
    let fault = number_one a.fault b.fault (ap (λ (z : Built). z.number) e) in
    ap Err (λ i. record { fault = fault i; place = (ap (λ (z : Built). z.place) e) i })

build_unique : Determined 3 build_kinds.ps build_kinds.r build_reads.Post (λ κs x s. left (built_of x) s.1.1.0.now s.1.1.1.0.now)
build_unique κs a x y s t p q = p ∙ sym q

build_result_unique : Determined 3 build_kinds.ps build_kinds.r build_reads.Post (λ κs x s. x)
build_result_unique κs a x y s t p q = built_one x y (ap (λ (l : Left). l.built) (p ∙ sym q))
