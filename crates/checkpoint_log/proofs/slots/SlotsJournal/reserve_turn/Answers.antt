use Rattle.std.proofs.Common.{◌<◌, ◌≤◌, ℕ, IsTrue, List, [], length, refl, sym, ◌∙◌, ap, subst, arith}
use Rattle.std.proofs.lemmas.Result.{on_ok_weaker}
use Rattle.checkpoint_log.specs.Slots.{IsPutWith}
use Rattle.checkpoint_log.proofs.Turning.{keep_moments, keep_stands, live_rests, turn_left}
use Rattle.checkpoint_log.proofs.slots.SlotsJournal.reserve_turn.Goals as goal

pub returns-then-self-ge18446744073709551615-clause-any_moment : goal.returns-then-self-ge18446744073709551615-clause-any_moment
returns-then-self-ge18446744073709551615-clause-any_moment g c payloads behind =
    live_rests g.met.D.Disk.laws c.args.self.now c.args.disk.now payloads behind

pub reserve_behind-requires : goal.reserve_behind-requires
reserve_behind-requires g c = record {
  shut = λ told.
      let left : c.args.self.now.number < 18446744073709551615 = omega (arith, c.if-self-ge18446744073709551615.false) in
      let there = ((c.requires.begun (turn_left c.args.self.now.number left)).1.there told).1.there in
      (there.behind, ap (g.D.Disk.seen c.args.disk.now) c.slot_name.ensures ∙ there.file_is);
}

pub returns-clause-any_moment : goal.returns-clause-any_moment
returns-clause-any_moment g c payloads behind =
    let left : c.args.self.now.number < 18446744073709551615 = omega (arith, c.if-self-ge18446744073709551615.false) in
    let begun : IsTrue g.D.Disk.is_modelled → IsTrue c.args.self.now.begun =
    λ told. ((c.requires.begun (turn_left c.args.self.now.number left)).1.there told).0 in
    keep_moments g.met.D.Disk.laws c.args.self.now c.args.disk.now c.reserve_behind.new.disk payloads c.slot_name.result.now c.slot_name.ensures begun behind
    c.reserve_behind.ensures.moments

pub returns-clause-stays : goal.returns-clause-stays
returns-clause-stays g c payloads behind =
    let left : c.args.self.now.number < 18446744073709551615 = omega (arith, c.if-self-ge18446744073709551615.false) in
    let begun : IsTrue g.D.Disk.is_modelled → IsTrue c.args.self.now.begun =
    λ told. ((c.requires.begun (turn_left c.args.self.now.number left)).1.there told).0 in
    keep_stands g.met.D.Disk.laws c.args.self.now _ c.args.disk.now c.reserve_behind.new.disk payloads c.slot_name.result.now refl refl c.slot_name.ensures
    begun behind c.reserve_behind.ensures.moments

pub returns-clause-is_put : goal.returns-clause-is_put
returns-clause-is_put g c more turns put = record {
  there = λ told.
      let end = c.args.self.now.put_end in
      let was = put.there told in
      let stays = c.reserve_behind.ensures.stays told end more
      (subst (λ (name : List ℕ). IsPutWith [] (g.D.Disk.seen c.args.disk.now name) end more) (sym c.slot_name.ensures) was.1) in
      (was.0, subst (λ (name : List ℕ). IsPutWith [] (g.D.Disk.seen c.reserve_behind.new.disk name) end more) c.slot_name.ensures stays);
}

pub returns-clause-room : goal.returns-clause-room
returns-clause-room g c told turns =
    on_ok_weaker c.reserve_behind.result
    (λ le. subst (λ (name : List ℕ). c.args.to ≤ length (g.D.Disk.seen c.reserve_behind.new.disk name)) c.slot_name.ensures le)
    (c.reserve_behind.ensures.room told)
