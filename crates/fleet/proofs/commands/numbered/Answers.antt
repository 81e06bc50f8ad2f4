use Rattle.fleet.proofs.Numbers.{number_behind}
use Rattle.fleet.proofs.commands.numbered.Goals as goal

pub returns : goal.returns
returns c = number_behind c.args.line.now c.args.word.now c.in_ok-rest.rest.now c.number.result c.in_ok-rest.ensures c.number.ensures
