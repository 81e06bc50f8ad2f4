use Rattle.std.proofs.Common.{List, ℕ, map, string_bytes, inl, inr, arith}
use Rattle.command_words.specs.Words.{IsOrder}
use Rattle.command_words.specs.declared.order.Order.TheVariants as orders
use Rattle.nucleus_top.proofs.Driven.{asks_for}
use Rattle.nucleus_top.proofs.asking.read_asked.Goals as goal

pub returns-in-Ok : goal.returns-in-Ok
returns-in-Ok c =
    let words : List (List ℕ) = map string_bytes c.args.words.now.items in
    let was : IsOrder words c.in-Ok._root c.in-Ok.order = grind (arith, c.in-Ok.ensures, c.in-Ok._root-is, c.in-Ok.order-is) in
    asks_for c.words_ask_one_thing.ensures words c.in-Ok._root c.in-Ok.order c.asked_by.result was c.asked_by.ensures

pub returns-in-Err-Usage : goal.returns-in-Err-Usage
returns-in-Err-Usage c = λ drives.
    let refuses = rw c.in-Err-Usage.field-0-is at c.in-Err-Usage.ensures in
    elim drives [
      | inl one ↦ elim one [
        | inl deploys ↦ refuses (deploys.1.0, deploys.1.1) deploys.1.2
        | inr resumes ↦ refuses (resumes.0, orders.Resume) resumes.1
      ]
      | inr serves ↦ refuses (serves.1.0, orders.Serve serves.0) serves.1.1
    ]
