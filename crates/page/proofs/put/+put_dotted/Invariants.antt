use Rattle.page.proofs.put.+put_dotted.Given as goal

abbrev pub decreases-put_dotted : goal.decreases-put_dotted
decreases-put_dotted l = l.k
