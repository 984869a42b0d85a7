-- The boundary that the definitions make ends and meets the demands. Assumes nothing.
use mathlib.Core.Path.{refl}
use Rattle.demands.specs.Boundary.{Ends}
use Rattle.demands.specs.Defined.{defined, DefinedMeets}
use Rattle.demands.proofs.Follows.{Follows}
use Rattle.demands.proofs.Demands.{demand_1, demand_2, demand_3}

defined_follows : Follows defined
defined_follows = record {
  file-read = λ file list o is. is;
  file-write = λ list file o is. is;
  list-check = λ list x is. is;
  list-scan = λ list a x is. is;
  list-runs = λ list runs o is. is;
  table-check = λ rows n x is. is;
  table-lookup = λ rows n a x is. is;
  table-build = λ list rows o is. is;
  table-save = λ rows n list o is. is;
  table-runs = λ rows n runs o is. is;
  image-build = λ s list nodes ports x is. is;
  image-lookup = λ s nodes ports a x is. is;
  image-lookup-many = λ s nodes ports addresses out o is. is;
  segments-build = λ list lent x is. is;
  segments-lookup = λ s a x is. is;
  segments-lookup-many = λ s addresses out o is. is;
  segments-entries = λ packed plain entry x is. is;
  message-write = λ list message o is. is;
  counts-make = λ rows n counts o is. is;
  update = λ rows n counts e x is. is;
}

defined_ends : Ends defined
defined_ends = record {
  file-read = λ file list. (_, refl);
  file-write = λ list file. (_, refl);
  list-check = λ list. (_, refl);
  list-scan = λ list a. (_, refl);
  list-runs = λ list runs. (_, refl);
  table-check = λ rows n. (_, refl);
  table-lookup = λ rows n a. (_, refl);
  table-build = λ list rows. (_, refl);
  table-save = λ rows n list. (_, refl);
  table-runs = λ rows n runs. (_, refl);
  image-build = λ s list nodes ports. (_, refl);
  image-lookup = λ s nodes ports a. (_, refl);
  image-lookup-many = λ s nodes ports addresses out. (_, refl);
  segments-build = λ list lent. (_, refl);
  segments-lookup = λ s a. (_, refl);
  segments-lookup-many = λ s addresses out. (_, refl);
  segments-entries = λ packed plain entry. (_, refl);
  message-write = λ list message. (_, refl);
  counts-make = λ rows n counts. (_, refl);
  update = λ rows n counts e. (_, refl);
}

pub defined_meets : DefinedMeets
defined_meets = record {
  ends = defined_ends;
  meets = record { one = demand_1 defined defined_follows; two = demand_2 defined defined_follows; three = demand_3 defined defined_follows };
}
