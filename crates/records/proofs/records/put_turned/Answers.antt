use Rattle.std.proofs.Common.{ℕ, List, ◌∷◌, ◌++◌}
use Rattle.records.specs.Codec.{◌&◌, long, number}
use Rattle.records.specs.Layout.{origin}
use Rattle.records.proofs.Pieces.{after}
use Rattle.records.proofs.records.put_turned.Goals as goal

pub returns-clause-spelled : goal.returns-clause-spelled
returns-clause-spelled c =
    let before : List ℕ = c.args.out.now.items in
    let first : List ℕ = c.put_tagged.new.out.items in
    let second : List ℕ = c.put.new.out.items in
    let all : List ℕ = c.put-2.new.out.items in
    let counts = (number & number & number).spell c.args.counts in
    let o = origin.spell c.args.origin.now in
    after c.put-2.result all first before (25 ∷ long.spell c.args.number) (o ++ counts) c.in_ok-put_tagged.ensures.spelled
    (after c.put-2.result all second first o counts c.in_ok-put.ensures.spelled c.put-2.ensures.spelled)
