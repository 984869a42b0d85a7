-- The answers of writing a file, from the answer of the list's check. Assumes nothing.
use mathlib.Core.Path.{◌≡◌, refl, sym, ap, ap₂, ◌∙◌}
use mathlib.Core.List.{List, ◌++◌}
use Prim.Native.Nat.{ℕ, ◌+◌, ◌≤◌, ◌<◌}
use native.Mathlib.Omega.{arith}
use lib.ListN.{length, length-append}
use Rattle.promise.specs.Over.{over, outcome}
use Rattle.refusals.specs.Refusals.{no_room, refused, accepted}
use Rattle.routes.specs.Routes.{route_at, route_count}
use Rattle.routes.specs.Check.{list_check}
use Rattle.refusals.specs.declared.Answer.{Answer}
use Rattle.file_rules.specs.File.{head_size, body_of, head_of, file_of}
use Rattle.file_rules.specs.Calls.{write_file}
use Rattle.file_rules.proofs.Whole.{length_head}
use Rattle.file_rules.proofs.Trips.{checked_refused, checked_short, write_done}
use Rattle.octets.specs.Octets.{stored}
use Rattle.octets.proofs.Store.{stored_over}
use Rattle.file_write.specs.Needs.{BodySize, FitsFile}
use Rattle.file_write.proofs.Store.{length_over_head}

module _ (w : ℕ) (list file : List ℕ) (checked : Answer) (is : checked ≡ list_check w list) where
  pub write_refused : (checked.number ≡ 0 → ⊥) → outcome checked file ≡ write_file w list file
  unfolding write_file
  write_refused n =
      ap (λ (a : Answer). outcome a file) is
      ∙ sym (checked_refused (list_check w list) _ _ file (λ z. n (ap (λ (a : Answer). a.number) is ∙ z)))

  module _ (done : checked.number ≡ 0) where
    pub listed : (list_check w list).number ≡ 0
    listed = ap (λ (a : Answer). a.number) (sym is) ∙ done

    module _ (size : ℕ) (size_is : BodySize w list size) where
      abbrev body : List ℕ
      body = body_of w (route_at list) (route_count list)

      -- the file's bytes, by the size that was summed up
      length_file : length (file_of w (route_at list) (route_count list)) ≡ head_size + size
      length_file =
          length-append (head_of (length body)) body ∙ omega (arith, length_head (length body), size_is.is)

      pub write_short : length file < head_size + size → outcome (refused no_room 0) file ≡ write_file w list file
      unfolding write_file
      write_short h =
          sym (checked_short (list_check w list) (file_of w (route_at list) (route_count list)) _ file listed (omega (arith, length_file)))

      module _ (room : head_size + size ≤ length file) where
        module _ (file' : List ℕ) (head_is : file' ≡ over (head_of size) file) where
          pub write_fits : FitsFile w list file'
          write_fits = record {
            valid = listed;
            room = omega (arith, ap length head_is ∙ length_over_head file size (omega arith), size_is.is);
          }

          pub write_all : (file'' : List ℕ) → file'' ≡ stored file' head_size body → outcome (accepted (head_size + size)) file'' ≡ write_file w list file
          write_all file'' body_is =
              ap₂ outcome (ap accepted (sym length_file))
              (body_is ∙ ap (λ (f : List ℕ). stored f head_size body) head_is
              ∙ stored_over (head_of size) file body head_size (length_head size)
              ∙ ap (λ (n : ℕ). over (head_of n ++ body) file) size_is.is)
              ∙ sym (write_done w list (file_of w (route_at list) (route_count list)) file listed refl (omega (arith, length_file)))
