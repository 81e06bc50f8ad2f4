use Rattle.folder_edges.proofs.Turns.{gives_what_was_taken}
use Rattle.folder_edges.proofs.laws.only_what_was_taken_is_given.Goals as goal

pub returns : goal.returns
returns c = gives_what_was_taken
