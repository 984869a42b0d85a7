-- What a builder takes from entries filled with ports: each is the port of its block's first address, and a later search may resume. Assumes
-- nothing.
use mathlib.Core.Path.{◌≡◌, sym, ap, ◌∙◌}
use mathlib.Core.Bool.{true, false}
use mathlib.Core.List.{List}
use Prim.Native.Nat.{ℕ}
use lib.ListN.{length}
use Rattle.promise.specs.Over.{Outcome, outcome}
use Rattle.segment_ports.specs.RunSearch.{run_port, run_of}
use Rattle.segment_ports.specs.Ports.{lie_within, ports_from, ports_into}
use Rattle.segment_ports.specs.Needs.{Blocks, Ported}
use Rattle.segment_ports.proofs.Fills.{after_resumes}
use Rattle.segment_ports.proofs.Within.{within_true}

module _ (runs lent : List ℕ) (from block shift : ℕ) where
  pub into_within : lie_within block (length lent) shift ≡ true → ports_into runs from block shift lent ≡ ports_from runs from block shift (length lent)
  unfolding ports_into
  into_within t = rw t

  pub into_past : lie_within block (length lent) shift ≡ false → outcome from lent ≡ ports_into runs from block shift lent
  unfolding ports_into
  into_past f = rw f

  pub ported : (next : ℕ) (left : List ℕ) → Blocks block (length lent) shift → outcome next left ≡ ports_into runs from block shift lent
      → Ported runs from block (length lent) shift next left
  ported next left ok e =
      let is : outcome next left ≡ ports_from runs from block shift (length lent) = e ∙ into_within (within_true block (length lent) shift ok) in
      let run = ap (λ (o : Outcome ℕ). o.answer) is in
      record {
        entries = ap (λ (o : Outcome ℕ). o.lent) is;
        resumes = λ a h. ap (run_port runs) (after_resumes runs from block shift (length lent) a h ∙ ap (λ (c : ℕ). run_of runs c a) (sym run));
      }
