use Rattle.bs_frac.proofs.Words.{number_law, literal_law, reduced_law}
use Rattle.bs_frac.proofs.written_laws.reading_follows_the_grammar.Goals as goal

pub returns : goal.returns
returns c = record { number = number_law; literal = literal_law; reduced = reduced_law }
