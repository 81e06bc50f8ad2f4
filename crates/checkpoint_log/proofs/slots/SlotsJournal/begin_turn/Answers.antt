use Rattle.std.proofs.Common.{refl, sym, ◌∙◌, ap}
use Rattle.checkpoint_log.specs.Turns.{IsShutOn}
use Rattle.checkpoint_log.proofs.Opened.{shut_older, put_none}
use Rattle.checkpoint_log.proofs.Turning.{live_stays, shut_stands}
use Rattle.checkpoint_log.proofs.slots.SlotsJournal.begin_turn.Goals as goal

pub returns-in_err-shut_start-clause-any_moment : goal.returns-in_err-shut_start-clause-any_moment
returns-in_err-shut_start-clause-any_moment g c payloads behind =
    live_stays g.met.D.Disk.laws c.args.self.now c.args.disk.now c.shut_start.new.disk payloads c.slot_name.result.now IsShutOn c.slot_name.ensures behind
    (λ told a b h q. shut_older _ _ b _ h.older q) c.shut_start.ensures.moments

pub returns-clause-any_moment : goal.returns-clause-any_moment
returns-clause-any_moment g c payloads behind =
    live_stays g.met.D.Disk.laws c.args.self.now c.args.disk.now c.shut_start.new.disk payloads c.slot_name.result.now IsShutOn c.slot_name.ensures behind
    (λ told a b h q. shut_older _ _ b _ h.older q) c.shut_start.ensures.moments

pub returns-clause-stays : goal.returns-clause-stays
returns-clause-stays g c payloads behind =
    shut_stands g.met.D.Disk.laws c.args.self.now _ c.args.disk.now c.shut_start.new.disk payloads c.slot_name.result.now refl refl c.slot_name.ensures behind
    c.shut_start.ensures.moments c.in_ok-shut_start.ensures.durable c.in_ok-shut_start.ensures.shut

pub returns-clause-begun : goal.returns-clause-begun
returns-clause-begun g c turn = (
  refl,
  record {
    there = λ told.
        let start = c.in_ok-shut_start.ensures.shut told in
        (refl, put_none _ start.0 (ap (g.D.Disk.seen c.shut_start.new.disk) (sym c.slot_name.ensures) ∙ start.1));
  },
)
