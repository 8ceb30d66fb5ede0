use Rattle.bs_series.proofs.book.Book.+leaf_value.Given as goal

abbrev pub decreases-leaf_value : goal.decreases-leaf_value
decreases-leaf_value l = l.id
