use mathlib.Core.Path.{ap, ◌∙◌}
use Prim.Native.Nat.{ℕ}
use Rattle.bits.specs.Prefix.{first}
use Rattle.bits.proofs.Prefix.{first_same}
use Rattle.prefix.specs.declared.Prefix.{Prefix}
use Rattle.table_lookup.proofs.on_path.Goals as goal

pub returns : goal.returns
returns c = let a = c.args in
    let begins : Prefix → ℕ = λ p. first 32 p.value p.len in
    rw (c.first.ensures ∙ ap begins c.new.ensures, c.first-2.ensures ∙ ap begins c.new-2.ensures)
    (first_same 32 a.address a.depth a.value)
