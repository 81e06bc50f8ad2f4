use Rattle.std.proofs.Common.{◌≡◌, ◌∙◌, List, ℕ, true, refl, subst}
use Rattle.fleet_core.specs.Fleets.{device_count}
use Rattle.fleet.specs.Commands.{IsWritten}
use Rattle.fleet.specs.Course.{shown}
use Rattle.fleet.specs.Runs.{stream_of, WritesInPart}
use Rattle.fleet.proofs.Courses.{cut_off, refused, stops_silent}
use Rattle.fleet.proofs.running.take_line.Goals as goal

pub returns-in-Err-clause-goes : goal.returns-in-Err-clause-goes
returns-in-Err-clause-goes g c past stands lines =
    stops_silent (device_count c.args.fleet.now) c.args.number past (record { text = c.args.line.now; is_ended = true }) (g.K.Sink.held c.args.sink.now)
    (g.K.Sink.faults c.args.sink.now) lines

pub returns-in-Err-step-clause-goes : goal.returns-in-Err-step-clause-goes
returns-in-Err-step-clause-goes g c past stands lines =
    let written : IsWritten c.args.line.now c.in-Ok-Some.happening = rw c.in-Ok-Some.field-0-is at c.in-Ok-Some.ensures in
    refused (device_count c.args.fleet.now) c.args.number past c.args.line.now c.in-Ok-Some.happening
    (stream_of g.K.Sink.held g.K.Sink.faults c.args.sink.now c.end_at_fault.new.sink) c.end_at_fault.result c.in-Err-step.fault
    written (c.in-Err-step.ensures.steps past stands) c.end_at_fault.ensures lines

pub returns-in_default-clause-goes : goal.returns-in_default-clause-goes
returns-in_default-clause-goes g c past stands lines =
    stops_silent (device_count c.args.fleet.now) c.args.number past (record { text = c.args.line.now; is_ended = true }) (g.K.Sink.held c.args.sink.now)
    (g.K.Sink.faults c.args.sink.now) lines

pub returns-clause-goes : goal.returns-clause-goes
returns-clause-goes g c past stands lines =
    let written : IsWritten c.args.line.now c.in-Ok-Some.happening = rw c.in-Ok-Some.field-0-is at c.in-Ok-Some.ensures in
    let step = c.in-Ok.ensures.steps past stands in
    let text : c.as_bytes.result.now ≡ shown c.in-Ok.reply = c.as_bytes.ensures.value ∙ c.as_str.ensures ∙ c.in-Ok-reply_text.ensures in
    let prefix = subst (λ (l : List ℕ). WritesInPart (g.K.Sink.held c.args.sink.now) (g.K.Sink.held c.write_all.new.sink) l) text
    c.in-Err-write_all.ensures.bytes in
    cut_off (device_count c.args.fleet.now) c.args.number past (record { text = c.args.line.now; is_ended = true }) step.0 c.in-Ok.reply
    (stream_of g.K.Sink.held g.K.Sink.faults c.args.sink.now c.write_all.new.sink)
    (c.in-Ok-Some.happening, (refl, written), step.1) step.2 c.in-Err-write_all.ensures.cause.failed prefix lines
