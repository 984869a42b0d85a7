-- What C is told of a build tells what the build returned. Assumes nothing.
use Rattle.std.proofs.Common.{◌≡◌, Result, Ok, Err, sym, ap}
use Rattle.refusals.specs.declared.Refusal.{Refusal}
use Rattle.refusals.specs.Refusals.{refused, checked}
use Rattle.refusals.proofs.Numbers.{number_ne0, checked_one}
use Rattle.segment_rules.specs.declared.Written.{Written}
use Rattle.segment_rules.specs.declared.Built.{Built}
use Rattle.segment_rules.specs.Build.{built_of}

abbrev counts : Built → Written
counts b = record { packed = b.packed; plain = b.plain; last = b.last }

pub built_one : (x y : Result Written Refusal) → built_of x ≡ built_of y → x ≡ y
built_one (Ok v) (Ok w) e = ap (λ (b : Built). Ok (counts b)) e
built_one (Ok v) (Err r) e = absurd (number_ne0 r.fault (sym (ap (λ (b : Built). b.number) e)))
built_one (Err r) (Ok v) e = absurd (number_ne0 r.fault (ap (λ (b : Built). b.number) e))
built_one (Err r) (Err q) e =
    let same : checked (Err r) ≡ checked (Err q) = ap (λ (b : Built). refused b.number b.place) e in
    let one : ◌≡◌ {A = Result Unit Refusal} (Err r) (Err q) = checked_one (Err r) (Err q) same in
    let is : r ≡ q = cc in
    ap Err is
