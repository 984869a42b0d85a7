-- Defines the prefixes that an iterator over a part still has to give. Assumes nothing.
use Rattle.std.specs.Prelude.{List}
use Rattle.prefix.specs.declared.Prefix.{Prefix}
use Rattle.message_rules.specs.declared.prefixes.Prefixes.{Prefixes}
use Rattle.message_rules.specs.Message.{prefixes_after}

abbrev pub left : Prefixes → List Prefix
left p = prefixes_after 32 p.part.now p.at
