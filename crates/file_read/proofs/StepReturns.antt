-- A route read at an offset, and the three answers of a step, from what the code has found. Assumes nothing.
use mathlib.Core.Path.{◌≡◌, sym, ap, ap₂, ◌∙◌}
use mathlib.Core.Bool.{Bool}
use mathlib.Core.List.{List}
use Prim.Native.Nat.{ℕ, ◌+◌}
use native.Mathlib.Omega.{arith}
use Rattle.std.proofs.Common.{Some, Ok, Err}
use borrow.Author.Tests.{ne_eqb}
use Rattle.refusals.specs.Refusals.{refused}
use Rattle.routes.specs.Routes.{route}
use Rattle.routes.proofs.Faults.{chain_fault, chain_rest}
use Rattle.octets.specs.Octets.{prefix_bytes, prefix_size, len_at, prefix_at}
use Rattle.file_rules.specs.File.{port_from, read_at, size_for}
use Rattle.file_rules.specs.Check.{frame_fault, content_fault, Entire}
use Rattle.file_read.specs.Step.{rises, fault_after, cursor_after, step_at}
use Rattle.file_read.specs.declared.step.Cursor.{Cursor}
use Rattle.routes.specs.declared.Route.{Route}
use Rattle.file_rules.proofs.Sound.{frame_fault_rest, frame_none}
use Rattle.prefix.specs.Prefixes.{prefix}
use Rattle.prefix.specs.declared.Prefix.{Prefix}

-- the length and the prefix of a whole route, and how many bytes hold it
module _ (w : ℕ) (file : List ℕ) (at len : ℕ) (len_is : len ≡ len_at file at) (p : Prefix) (p_is : p ≡ prefix_at w file at)
    (k : ℕ) (k-is : k ≡ prefix_bytes len) where
  size_is : at + 1 + k ≡ at + prefix_size (len_at file at)
  size_is = omega (arith, k-is ∙ ap (λ (l : ℕ). prefix_bytes l) len_is)

  pub read_is : (port : ℕ) → port ≡ port_from file (at + 1 + k) → route p.value len port ≡ read_at w file at
  unfolding read_at
  read_is port port_is =
      ap (λ (l : ℕ). route p.value l port) len_is
      ∙ ap₂ (λ (q : Prefix) (n : ℕ). route q.value (len_at file at) n) p_is (port_is ∙ ap (port_from file) size_is)

module _ (w : ℕ) (file : List ℕ) (c : Cursor) (frame : ℕ) (frame_is : frame ≡ frame_fault w file c.count c.at 0) where
  refused_step : (m : ℕ) → fault_after w file c ≡ m → (m ≡ 0 → ⊥) → Err (refused m c.at) ≡ step_at w file c
  unfolding step_at
  refused_step m e n = sym (rw (e, ne_eqb m 0 n))

  -- 8, 4, 3 (cut)
  pub step_unframed : (frame ≡ 0 → ⊥) → Err (refused frame c.at) ≡ step_at w file c
  unfolding fault_after
  step_unframed n =
      refused_step frame (chain_fault (frame_fault w file c.count c.at) (frame_fault_rest w file c.count c.at) frame frame_is _ n) n

  module _ (framed : frame ≡ 0) where
    pub step_entire : Entire w file c.at
    step_entire = (frame_none w file c.count c.at 0 (sym frame_is ∙ framed)).1

    module _ (x : Route) (x-is : x ≡ read_at w file c.at) (up : Bool) (up-is : up ≡ rises c.past x)
        (fault : ℕ) (fault-is : fault ≡ content_fault x up) where
      fault_after_lem : fault_after w file c ≡ fault
      unfolding fault_after
      fault_after_lem =
          chain_rest (frame_fault w file c.count c.at) (frame_fault_rest w file c.count c.at) frame frame_is _ framed
          ∙ sym (fault-is ∙ ap (content_fault x) up-is ∙ ap (λ (y : Route). content_fault y (rises c.past y)) x-is)

      -- 6, 7
      pub step_faulty : (fault ≡ 0 → ⊥) → Err (refused fault c.at) ≡ step_at w file c
      step_faulty n = refused_step fault fault_after_lem n

      pub step_took : fault ≡ 0 → (k : ℕ) → k ≡ size_for x.len → (p : Prefix) → p ≡ prefix x.value x.len
          → Ok (record { at = c.at + k; count = c.count + 1; past = Some p }) ≡ step_at w file c
      unfolding step_at
      step_took z k k-is p p_is =
          ap₂ (λ (j : ℕ) (q : Prefix). Ok (record { at = c.at + j; count = c.count + 1; past = Some q })) k-is p_is
          ∙ sym (rw (fault_after_lem ∙ z) (ap (λ (y : Route). Ok (cursor_after c y)) (sym x-is)))
