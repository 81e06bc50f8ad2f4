use Rattle.std.proofs.Common.{◌≡◌, ◌≢◌, ◌+◌, ◌<◌, ℕ, Bool, true, false, List, Vec, Global, take, length, get_or, sym, ap, ◌∙◌, subst, arith}
use Rattle.std.specs.Prelude.{slice_set}
use Rattle.std.specs.List.{Contains}
use Rattle.std.proofs.lemmas.Bool.{cases_eq}
use Rattle.std.proofs.lemmas.List.{take_more, get_or-set_other}
use Rattle.std.proofs.lemmas.List.Elements.{Contains-append_left, Contains-push}
use Rattle.conflict_search.specs.Endless.{IsAmong, AreListedOf}
use Rattle.conflict_search.proofs.Ending.{listed_same, listed_more}
use Rattle.conflict_search.proofs.library.Library.table_of.Goals as goal
use Rattle.conflict_search.proofs.library.Library.table_of.Goals.{then-first-len, else-first-len}

pub loop-place-preserved : goal.loop-place-preserved
loop-place-preserved c =
    let first = λ (x : ℕ). get_or c.args.self.now.names.now.first.items x 0 in
    let places = c.args.places.now in
    let i = c.loop-place.place-index in
    let Listed = λ (v : Vec Bool Global). AreListedOf first (take (i + 1) places) v.items in
    elim c.if-first-len.branch [
      | then-first-len w ↦ subst Listed (sym w.listed-is) (listed_more first places i c.loop-place.listed.items c.first-first.result c.loop-place-test.true
          c.loop-place.invariant (sym c.first-first.ensures))
      | else-first-len w ↦ subst Listed (sym w.listed-is) (listed_same first places i c.loop-place.listed.items c.loop-place-test.true c.loop-place.invariant)
    ]
