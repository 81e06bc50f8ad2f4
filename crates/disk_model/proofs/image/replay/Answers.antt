use Rattle.std.proofs.Common.{◌≡◌, ◌+◌, List, [], ◌∷◌, ◌++◌, take, sym, ◌∙◌, ap, arith}
use Rattle.std.proofs.lemmas.List.{take_more, take_all}
use Rattle.disk_model.specs.Disk.{Image}
use Rattle.disk_model.specs.Files.{image_of}
use Rattle.disk_model.specs.Picked.{picked_step, picked_after}
use Rattle.disk_model.specs.Record.{seen_step, seen_after}
use Rattle.disk_model.specs.Laws.Replay.{seen-push}
use Rattle.disk_model.specs.declared.record.Call.{Call}
use Rattle.disk_model.proofs.Picks.{picked-push}
use Rattle.disk_model.proofs.image.replay.Goals as goal

pub loop-call-preserved : goal.loop-call-preserved
loop-call-preserved c =
    let calls = c.args.calls.now in
    let start : Image = image_of c.args.start.now in
    let fill = c.args.fill in
    let at = c.loop-call.call-index in
    let call : Call = c.call-item.result in
    let more : take (at + 1) calls ≡ take at calls ++ call ∷ [] = take_more calls at call (omega arith) ∙ ap (λ (k : Call). take at calls ++ k ∷ [])
    (sym c.call-item.is) in
    let seen : image_of c.loop-call.seen ≡ seen_after (take at calls) start = λ k n. (c.loop-call.invariant.reads n) k in
    let image : image_of c.loop-call.image ≡ picked_after fill (take at calls) start start = λ k n. (c.loop-call.invariant.picks n) k in
    record {
      reads = λ n. c.in_ok-step_on.ensures n ∙ ap (λ (i : Image). seen_step call i n) seen ∙ ap (λ (i : Image). i n)
          (sym (seen-push (take at calls) call start))
          ∙ ap (λ (l : List Call). seen_after l start n) (sym more);
      picks = λ n. c.in_ok-pick_on.ensures n ∙ ap (λ (i : Image). picked_step fill call i (image_of c.loop-call.image) n) seen
          ∙ ap (λ (i : Image). picked_step fill call (seen_after (take at calls) start) i n) image
          ∙ ap (λ (i : Image). i n) (sym (picked-push fill (take at calls) call start start))
          ∙ ap (λ (l : List Call). picked_after fill l start start n) (sym more);
    }

pub returns : goal.returns
returns c n =
    c.loop-call.invariant.picks n
    ∙ ap (λ (l : List Call). picked_after c.args.fill l (image_of c.args.start.now) (image_of c.args.start.now) n)
    (take_all c.loop-call.call-index c.args.calls.now (omega arith))
