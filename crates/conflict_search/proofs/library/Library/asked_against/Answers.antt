use Rattle.std.proofs.Common.{ℕ, sym, subst}
use Rattle.std.specs.List.{Contains}
use Rattle.npm_ranges.specs.Ranges.{IsInRange}
use Rattle.conflict_search.specs.declared.demands.Demand.{Demand}
use Rattle.conflict_search.specs.Stands.{members_in, wanted_in}
use Rattle.conflict_search.proofs.Trying.{wanted_met, asked_met, refused_conflict}
use Rattle.conflict_search.proofs.library.Library.asked_against.Goals as goal

pub returns-in_ok-pair-in-Some : goal.returns-in_ok-pair-in-Some
returns-in_ok-pair-in-Some c =
    let board = c.requires.board in
    let here = c.in-Some.ensures in
    refused_conflict (members_in c.args.self.now) (wanted_in c.args.self.now) c.args.board.now.places.items c.args.board.now.asked.items c.args.place
    c.args.number c.version_at.result.now
    board.demands c.requires.number c.version_at.ensures c.in-Some.demand c.in_ok-pair-in-Some.field-0.items (subst (λ l. Contains l c.in-Some.demand)
    c.row.ensures here.0) here.1 c.in_ok-pair-in-Some.ensures

pub returns-in-None : goal.returns-in-None
returns-in-None c =
    let board = c.requires.board in
    let all = subst (λ l. (d : Demand) → Contains l d → IsInRange c.version_at.result.now d.range.now) c.row.ensures c.in-None.ensures in (
      wanted_met (members_in c.args.self.now) (wanted_in c.args.self.now) c.args.board.now.places.items c.args.board.now.asked.items c.args.place
          c.args.number c.version_at.result.now board.demands c.requires.number c.version_at.ensures all,
      asked_met (members_in c.args.self.now) (wanted_in c.args.self.now) c.args.board.now.places.items c.args.board.now.asked.items c.args.place
          c.args.number c.version_at.result.now board.demands c.requires.number c.version_at.ensures all,
    )
