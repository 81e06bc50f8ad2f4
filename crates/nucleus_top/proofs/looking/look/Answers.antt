use Rattle.nucleus_top.proofs.Ends.{durable, parts}
use Rattle.nucleus_top.proofs.looking.look.Goals as goal

pub returns-clause-parts : goal.returns-clause-parts
returns-clause-parts g c = parts _ _ _ _ _ _ _ c.words_ask_one_thing.ensures c.answer-answer.result c.answer-answer.ensures.comes c.answer-answer.ensures.quiet
    c.answer-answer.ensures.still c.tell-status.ensures.is_printed

pub returns-clause-durable : goal.returns-clause-durable
returns-clause-durable g c = λ order asks is. durable order (g.D.Disk.may_leave c.answer-answer.new.disk) (g.D.Disk.seen c.answer-answer.new.disk) _ _
    c.answer-answer.result c.tell-status.ensures.is_printed (c.answer-answer.ensures.keeps order asks) is
