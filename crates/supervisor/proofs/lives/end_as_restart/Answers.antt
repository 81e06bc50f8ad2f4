use Rattle.supervisor.proofs.Slots.{good_stop}
use Rattle.supervisor.proofs.lives.end_as_restart.Goals as goal

pub replace_gone-requires : goal.replace_gone-requires
replace_gone-requires c = good_stop c.args.life.now c.requires
