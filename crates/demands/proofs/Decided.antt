-- The checks of each call allow one number and one place, and none of them the unused number. Assumes nothing.
use mathlib.Core.Path.{◌≡◌, sym, ◌∙◌}
use mathlib.Core.Logic.{inl, inr}
use mathlib.Core.Bool.{false}
use Prim.Native.Nat.{ℕ}
use lib.Dec.{eqb}
use borrow.Author.Tests.{eqb-false}
use Rattle.demands.specs.Lamp.{Verdict, shows, whether, Decides, Without}
use Rattle.demands.specs.EachCall.{Demand1Decides, EntriesDecided}
use Rattle.demands.specs.Unused.{unused, NoThirteen}
use Rattle.demands.proofs.EachCall.{each_call}

whether_decides : (P : Type 0) (then else : Verdict) → Decides then → Decides else → Decides (whether P then else)
whether_decides P then else d e m p m' p' (inl x) (inl y) = d m p m' p' x.1 y.1
whether_decides P then else d e m p m' p' (inl x) (inr y) = absurd (y.0 x.0)
whether_decides P then else d e m p m' p' (inr x) (inl y) = absurd (x.0 y.0)
whether_decides P then else d e m p m' p' (inr x) (inr y) = e m p m' p' x.1 y.1

shows_decides : (number place : ℕ) → Decides (shows number place)
shows_decides number place m p m' p' x y = (x.0 ∙ sym y.0, x.1 ∙ sym y.1)

pub demand_1_decides : Demand1Decides
demand_1_decides = each_call Decides (λ number place _. shows_decides number place) whether_decides

pub entries_decided : EntriesDecided
entries_decided packed plain entry =
    whether_decides _ _ _
    (whether_decides _ _ _
    (whether_decides _ _ _ (shows_decides 0 0) (shows_decides _ _)) (whether_decides _ _ _ (shows_decides 0 0) (shows_decides _ _)))
    (shows_decides 0 0)

shows_without : (number place : ℕ) → eqb number unused ≡ false → Without unused (shows number place)
shows_without number place other m p x e = eqb-false number unused other (sym x.0 ∙ e)

whether_without : (P : Type 0) (then else : Verdict) → Without unused then → Without unused else → Without unused (whether P then else)
whether_without P then else t f m p (inl x) = t m p x.1
whether_without P then else t f m p (inr x) = f m p x.1

pub no_thirteen : NoThirteen
no_thirteen B d =
    let no = each_call (Without unused) shows_without whether_without in
    record {
      file-read = λ file list o c. no.file-read file list _ _ (d.file-read file list o c).exact;
      file-write = λ list file o c. no.file-write list file _ _ (d.file-write list file o c).exact;
      list-check = λ list x c. no.list-check list _ _ (d.list-check list x c).exact;
      list-scan = λ list a x c. no.list-check list _ _ (d.list-scan list a x c).exact;
      list-runs = λ list runs o c. no.list-runs list runs _ _ (d.list-runs list runs o c).exact;
      table-check = λ rows n x c. no.table-check rows n _ _ (d.table-check rows n x c).exact;
      table-lookup = λ rows n a x c. no.table-lookup rows n a _ _ (d.table-lookup rows n a x c).exact;
      table-build = λ list rows o c. no.table-build list rows _ _ (d.table-build list rows o c).exact;
      table-save = λ rows n list o c. no.table-save rows n list _ _ (d.table-save rows n list o c).exact;
      table-runs = λ rows n runs o c. no.table-runs rows n runs _ _ (d.table-runs rows n runs o c).exact;
      image-build = λ s list nodes ports x c. no.image-build s list nodes ports _ _ (d.image-build s list nodes ports x c).exact;
      image-lookup = λ s nodes ports a x c. no.image-lookup s nodes ports a _ _ (d.image-lookup s nodes ports a x c).exact;
      image-lookup-many = λ s nodes ports addresses out o c. no.image-lookup-many s addresses out _ _ (d.image-lookup-many s nodes ports addresses out o c).exact;
      segments-build = λ list lent x c. no.segments-build list lent _ _ (d.segments-build list lent x c).exact;
      segments-lookup = λ s a x bits c. no.segments-lookup s a _ _ (d.segments-lookup s a x bits c).exact;
      segments-lookup-many = λ s addresses out o c. no.segments-lookup-many addresses out _ _ (d.segments-lookup-many s addresses out o c).exact;
      segments-entries = λ packed plain entry x c. no.segments-entries _ _ (d.segments-entries packed plain entry x c).exact;
      message-write = λ list message o c. no.message-write list message _ _ (d.message-write list message o c).exact;
      counts-make = λ rows n counts o c. no.counts-make rows n counts _ _ (d.counts-make rows n counts o c).exact;
      update = λ rows n counts e x fits c. no.update rows n counts e _ _ (d.update rows n counts e x fits c).exact;
    }
