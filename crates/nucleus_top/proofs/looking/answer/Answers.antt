use Rattle.std.proofs.Common.{◌≡◌, List, ℕ, map, string_bytes, inl, inr, refl, sym, subst, arith}
use Rattle.command_words.specs.Words.{IsOrder}
use Rattle.command_words.specs.declared.order.Order.{Order}
use Rattle.command_words.specs.declared.order.Order.TheVariants as order
use Rattle.nucleus_top.specs.Leaving.{IsDurable}
use Rattle.nucleus_top.specs.Answers.{Store, store_of}
use Rattle.nucleus_top.proofs.Reading.{reads_none}
use Rattle.nucleus_top.proofs.WorkloadEnds.{asks_nothing, asks_other, drives_some, tells_draws}
use Rattle.nucleus_top.proofs.looking.answer.Goals as goal

pub returns-in-Err-Usage-clause-comes : goal.returns-in-Err-Usage-clause-comes
returns-in-Err-Usage-clause-comes g c =
    let refuses = rw c.in-Err-Usage.field-0-is at c.in-Err-Usage.ensures in
    inr (inl (refl, λ order asks. refuses (asks.root, order) asks.is_order, refl))

pub returns-in-Init-clause-keeps : goal.returns-in-Init-clause-keeps
returns-in-Init-clause-keeps g c = λ other asks done.
    let words : List (List ℕ) = map string_bytes c.args.words.now.items in
    let was : IsOrder words c.in-Ok._root (order.Init c.in-Init.origin) = grind (arith, c.in-Ok.ensures, c.in-Ok._root-is, c.in-Ok.order-is, c.in-Init.is) in
    let same : other ≡ order.Init c.in-Init.origin = (c.words_ask_one_thing.ensures words asks.root c.in-Ok._root other (order.Init c.in-Init.origin)
    asks.is_order was).1 in
    subst (λ (o : Order). IsDurable o (g.D.Disk.may_leave c.init.new.disk) (g.D.Disk.seen c.init.new.disk)) (sym same) (c.init.ensures.keeps done)

pub returns-clause-read : goal.returns-clause-read
returns-clause-read g c = reads_none 524289 (g.S.Source.left c.args.source.now)

-- ---- `workload`

pub returns-in-Workload-clause-comes : goal.returns-in-Workload-clause-comes
returns-in-Workload-clause-comes g c =
    let words : List (List ℕ) = map string_bytes c.args.words.now.items in
    let store : Store = store_of g.D.Disk.is_modelled g.D.Disk.seen g.D.Disk.faults c.args.disk.now c.args.disk.now in
    let was : IsOrder words c.in-Ok._root (order.Workload c.in-Workload.seed) = grind (
      arith,
      c.in-Ok.ensures,
      c.in-Ok._root-is,
      c.in-Ok.order-is,
      c.in-Workload.is,
    ) in
    inl (
      order.Workload c.in-Workload.seed,
      record { root = c.in-Ok._root; is_order = was; drives_none = tt },
      tells_draws c.in-Workload.seed store c.draw_workload.result refl c.draw_workload.ensures,
    )

pub returns-in-Workload-clause-keeps : goal.returns-in-Workload-clause-keeps
returns-in-Workload-clause-keeps g c = λ other asks done.
    let words : List (List ℕ) = map string_bytes c.args.words.now.items in
    let was : IsOrder words c.in-Ok._root (order.Workload c.in-Workload.seed) = grind (
      arith,
      c.in-Ok.ensures,
      c.in-Ok._root-is,
      c.in-Ok.order-is,
      c.in-Workload.is,
    ) in
    let same : other ≡ order.Workload c.in-Workload.seed = (c.words_ask_one_thing.ensures words asks.root c.in-Ok._root other
    (order.Workload c.in-Workload.seed) asks.is_order was).1 in
    subst (λ (o : Order). IsDurable o (g.D.Disk.may_leave c.args.disk.now) (g.D.Disk.seen c.args.disk.now)) (sym same) tt

-- ---- no other command is `workload`

pub returns-in-Init-clause-alone : goal.returns-in-Init-clause-alone
returns-in-Init-clause-alone g c = λ seed asks.
    let words : List (List ℕ) = map string_bytes c.args.words.now.items in
    let was : IsOrder words c.in-Ok._root (order.Init c.in-Init.origin) = grind (arith, c.in-Ok.ensures, c.in-Ok._root-is, c.in-Ok.order-is, c.in-Init.is) in
    absurd (asks_other c.words_ask_one_thing.ensures words c.in-Ok._root (order.Init c.in-Init.origin) was (λ s same. cc) seed asks)

pub returns-in-Status-clause-alone : goal.returns-in-Status-clause-alone
returns-in-Status-clause-alone g c = λ seed asks.
    let words : List (List ℕ) = map string_bytes c.args.words.now.items in
    let was : IsOrder words c.in-Ok._root (order.Status c.in-Status.json) = grind (
      arith,
      c.in-Ok.ensures,
      c.in-Ok._root-is,
      c.in-Ok.order-is,
      c.in-Status.is,
    ) in
    absurd (asks_other c.words_ask_one_thing.ensures words c.in-Ok._root (order.Status c.in-Status.json) was (λ s same. cc) seed asks)

pub returns-in-Plan-clause-alone : goal.returns-in-Plan-clause-alone
returns-in-Plan-clause-alone g c = λ seed asks.
    let words : List (List ℕ) = map string_bytes c.args.words.now.items in
    let was : IsOrder words c.in-Ok._root order.Plan = grind (arith, c.in-Ok.ensures, c.in-Ok._root-is, c.in-Ok.order-is, c.in-Plan.is) in
    absurd (asks_other c.words_ask_one_thing.ensures words c.in-Ok._root order.Plan was (λ s same. cc) seed asks)

pub returns-in-Audit-clause-alone : goal.returns-in-Audit-clause-alone
returns-in-Audit-clause-alone g c = λ seed asks.
    let words : List (List ℕ) = map string_bytes c.args.words.now.items in
    let was : IsOrder words c.in-Ok._root order.Audit = grind (arith, c.in-Ok.ensures, c.in-Ok._root-is, c.in-Ok.order-is, c.in-Audit.is) in
    absurd (asks_other c.words_ask_one_thing.ensures words c.in-Ok._root order.Audit was (λ s same. cc) seed asks)

pub returns-in-ConfigGet-clause-alone : goal.returns-in-ConfigGet-clause-alone
returns-in-ConfigGet-clause-alone g c = λ seed asks.
    let words : List (List ℕ) = map string_bytes c.args.words.now.items in
    let was : IsOrder words c.in-Ok._root (order.ConfigGet c.in-ConfigGet.name c.in-ConfigGet.at) = grind (
      arith,
      c.in-Ok.ensures,
      c.in-Ok._root-is,
      c.in-Ok.order-is,
      c.in-ConfigGet.is,
    ) in
    absurd (asks_other c.words_ask_one_thing.ensures words c.in-Ok._root (order.ConfigGet c.in-ConfigGet.name c.in-ConfigGet.at) was (λ s same. cc) seed asks)

pub returns-in-Why-clause-alone : goal.returns-in-Why-clause-alone
returns-in-Why-clause-alone g c = λ seed asks.
    let words : List (List ℕ) = map string_bytes c.args.words.now.items in
    let was : IsOrder words c.in-Ok._root order.Why = grind (arith, c.in-Ok.ensures, c.in-Ok._root-is, c.in-Ok.order-is, c.in-Why.is) in
    absurd (asks_other c.words_ask_one_thing.ensures words c.in-Ok._root order.Why was (λ s same. cc) seed asks)

pub returns-in-Components-clause-alone : goal.returns-in-Components-clause-alone
returns-in-Components-clause-alone g c = λ seed asks.
    let words : List (List ℕ) = map string_bytes c.args.words.now.items in
    let was : IsOrder words c.in-Ok._root order.Components = grind (arith, c.in-Ok.ensures, c.in-Ok._root-is, c.in-Ok.order-is, c.in-Components.is) in
    absurd (asks_other c.words_ask_one_thing.ensures words c.in-Ok._root order.Components was (λ s same. cc) seed asks)

pub returns-in-About-clause-alone : goal.returns-in-About-clause-alone
returns-in-About-clause-alone g c = λ seed asks.
    let words : List (List ℕ) = map string_bytes c.args.words.now.items in
    let was : IsOrder words c.in-Ok._root order.About = grind (arith, c.in-Ok.ensures, c.in-Ok._root-is, c.in-Ok.order-is, c.in-About.is) in
    absurd (asks_other c.words_ask_one_thing.ensures words c.in-Ok._root order.About was (λ s same. cc) seed asks)

pub returns-in-Components-clause-keeps : goal.returns-in-Components-clause-keeps
returns-in-Components-clause-keeps g c = λ other asks done.
    let words : List (List ℕ) = map string_bytes c.args.words.now.items in
    let was : IsOrder words c.in-Ok._root order.Components = grind (arith, c.in-Ok.ensures, c.in-Ok._root-is, c.in-Ok.order-is, c.in-Components.is) in
    let same : other ≡ order.Components = (c.words_ask_one_thing.ensures words asks.root c.in-Ok._root other order.Components asks.is_order was).1 in
    subst (λ (o : Order). IsDurable o (g.D.Disk.may_leave c.components.new.disk) (g.D.Disk.seen c.components.new.disk)) (sym same) tt

-- ---- a command that drives components

pub returns-clause-comes : goal.returns-clause-comes
returns-clause-comes g c =
    let words : List (List ℕ) = map string_bytes c.args.words.now.items in
    let was : IsOrder words c.in-Ok._root c.in-Ok.order = grind (arith, c.in-Ok.ensures, c.in-Ok._root-is, c.in-Ok.order-is) in
    inr (inl (refl, asks_nothing c.words_ask_one_thing.ensures words c.in-Ok._root c.in-Ok.order was (drives_some c.in-Ok.order c.in-Deploy.is), refl))
