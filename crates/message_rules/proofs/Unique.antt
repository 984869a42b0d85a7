-- Any two results that a promise of this crate allows coincide. An iterator's fields are its own: what is seen of it is the prefixes that it
-- still gives. Assumes nothing.
use mathlib.Core.Path.{◌≡◌, sym, ap, ◌∙◌}
use Rattle.std.proofs.Common.{List, [], ◌∷◌, Option, None, Some}
use Rattle.std.specs.Iterator.{YieldsFirst}
use Rattle.promise.specs.Determined.{Determined}
use Rattle.prefix.specs.declared.Prefix.{Prefix}
use Rattle.message_rules.specs.declared.prefixes.Prefixes.{Prefixes}
use Rattle.message_rules.specs.Left.{left}
use Rattle.message_rules.proofs.prefixes.Prefixes.new.Kinds as new_kinds
use Rattle.message_rules.proofs.prefixes.Prefixes.new.Reads as new_reads
use Rattle.message_rules.proofs.prefixes.PrefixesIterator.next.Kinds as next_kinds
use Rattle.message_rules.proofs.prefixes.PrefixesIterator.next.Reads as next_reads

new_unique : Determined 1 new_kinds.ps new_kinds.r new_reads.Post (λ κs x s. left x)
new_unique κs a x y s t p q = p ∙ sym q

-- the first of some prefixes, and those after it
abbrev first_of : List Prefix → Option Prefix × List Prefix
first_of [] = (None, [])
first_of (p ∷ ps) = (Some p, ps)

given_first : (s t : Prefixes) (p : Option Prefix) → YieldsFirst left s p t → (p, left t) ≡ first_of (left s)
given_first s t None h = (λ j. (None, h.1 j)) ∙ sym (ap first_of h.0)
given_first s t (Some p) h = sym (ap first_of h)

next_unique : Determined 2 next_kinds.ps next_kinds.r next_reads.Post {X = Option Prefix × List Prefix} (λ κs x s. (x, left s.0.now))
next_unique κs a x y s t p q = given_first a.0.now s.0.now x p.0 ∙ sym (given_first a.0.now t.0.now y q.0)
