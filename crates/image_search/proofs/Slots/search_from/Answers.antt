use Rattle.image_search.proofs.Slots.search_from.Goals as goal

pub returns : goal.returns
returns c = let a = c.args in λ i. record { short = a.at; route = a.at; clear = c.clear_to.ensures i }
