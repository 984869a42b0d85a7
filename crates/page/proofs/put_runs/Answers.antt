use mathlib.Core.Path.{refl, sym, ap, ◌∙◌}
use Rattle.promise.specs.Over.{outcome}
use Rattle.refusals.specs.Refusals.{answered}
use Rattle.routes.specs.Routes.{route_at, route_count}
use Rattle.runs_rules.specs.Listing.{listed}
use Rattle.page.specs.Page.{runs_text}
use Rattle.page.proofs.Wrote.{wrote_as}
use Rattle.page.proofs.Answers.{listing_ok, listing_lined, listing_shown}
use borrow.Author.Rules.{rules}
use Rattle.page.proofs.put_runs.Goals as goal

pub unwrap-count-requires : goal.unwrap-count-requires
unwrap-count-requires c = listing_ok 32 _ _ c.requires refl c.list_runs.ensures c.list_runs.result refl

pub put_listing-requires : goal.put_listing-requires
put_listing-requires c =
    let done = ap (λ r. outcome (answered r) c.list_runs.new.runs) (sym c.unwrap-count.ensures) ∙ c.list_runs.ensures in
    listing_lined 32 _ _ c.requires refl done (search rules)

pub returns : goal.returns
returns c =
    let done = ap (λ r. outcome (answered r) c.list_runs.new.runs) (sym c.unwrap-count.ensures) ∙ c.list_runs.ensures in
    wrote_as (runs_text (listed 32 (route_at c.args.list.now) (route_count c.args.list.now))) c.put_listing.ensures (listing_shown 32 _ _ c.requires refl done)
