-- Which file is named, by the lines of the artifacts.
use Rattle.std.proofs.Common.{◌≡◌, ◌⊎◌, ℕ, ◌+◌, ◌-◌, ◌≤◌, min, List, [], ◌∷◌, ◌++◌, length, take, drop, arith, refl, sym, ap, subst, ◌∙◌, inl, inr}
use Rattle.std.specs.Prelude.{Option, Some, None, IfSome, Result, Ok, Err, IfOk, ◌↔◌}
use Rattle.std.proofs.lemmas.List.{length-drop, length-take-le, take-append-le, take_all}
use Rattle.std.proofs.Math.Seq.{take-add}
use Rattle.sha2.specs.Sha256.{sha256}
use Rattle.nuc_base.specs.Tables.{Table, IsFirst, AllHold, each}
use Rattle.nuc_base.proofs.Tables.{first_before, first_after, all_both, first_excludes}
use Rattle.disk_model.specs.Disk.{Image}
use Rattle.records.specs.Stored.{Item}
use Rattle.records.specs.declared.record.Held.{Held}
use Rattle.device.specs.Devices.{Device, Pending}
use Rattle.artifact_store.specs.Audited.{AuditOutcome, held_line, item_line, items_lines}
use Rattle.artifact_store.specs.Holding.{HoldsFile, HoldsFiles, HoldsItems, HoldsDevice}
use Rattle.artifact_store.specs.Swept.{items_of, pending_items}

-- lines that hold, and others behind them
pub audits_after : (above below : Table (List ℕ × List ℕ)) (r : Option (List ℕ × List ℕ)) → AllHold above → AuditOutcome below r
    → AuditOutcome (above ++ below) r
audits_after above below None holds said = all_both above below holds said
audits_after above below (Some found) holds said = first_after above below found holds said

-- a line that fails, and others behind it
pub audits_before : (above below : Table (List ℕ × List ℕ)) (found : List ℕ × List ℕ) → IsFirst above found → AuditOutcome (above ++ below) (Some found)
audits_before above below found first = first_before above below found first

all_split : (above below : Table (List ℕ × List ℕ)) → AllHold (above ++ below) → AllHold above × AllHold below
all_split [] below h = (tt, h)
all_split (line ∷ lines) below h = let both = all_split lines below h.1 in ((h.0, both.0), both.1)

first_split : (above below : Table (List ℕ × List ℕ)) (found : List ℕ × List ℕ) → IsFirst (above ++ below) found → IsFirst above found ⊎
    (AllHold above × IsFirst below found)
first_split [] below found first = inr (tt, first)
first_split (line ∷ lines) below found (inl here) = inl (inl here)
first_split (line ∷ lines) below found (inr later) = elim (first_split lines below found later.1) [
  | inl here ↦ inl (inr (later.0, here))
  | inr both ↦ inr
      ((later.0, both.0), both.1)
]

-- ---- one file

pub held_next : (image : Image) (i : Item) (h : Held) (rest : List Held) (r : Option (List ℕ × List ℕ)) → HoldsFile image i.name i.version h →
    AuditOutcome (each (held_line image i) rest) r → AuditOutcome (each (held_line image i) (h ∷ rest)) r
held_next image i h rest r holds said = audits_after (held_line image i h) (each (held_line image i) rest) r (holds, tt) said

-- ---- items

pub item_next : (image : Image) (i : Item) (rest : List Item) (r : Option (List ℕ × List ℕ)) → AuditOutcome (item_line image i) None →
    AuditOutcome (items_lines image rest) r → AuditOutcome (items_lines image (i ∷ rest)) r
item_next image i rest r holds said = audits_after (item_line image i) (items_lines image rest) r holds said

pub item_here : (image : Image) (i : Item) (rest : List Item) (found : List ℕ × List ℕ) → AuditOutcome (item_line image i) (Some found) →
    AuditOutcome (items_lines image (i ∷ rest)) (Some found)
item_here image i rest found first = audits_before (item_line image i) (items_lines image rest) found first

-- of two lists of items, one behind the other
first_left : (image : Image) (xs ys : List Item) (found : List ℕ × List ℕ) → IsFirst (items_lines image xs) found → IsFirst (items_lines image (xs ++ ys)) found
first_left image [] ys found first = absurd first
first_left image (x ∷ xs) ys found first = elim (first_split (item_line image x) (items_lines image xs) found first) [
  | inl here ↦ first_before (item_line image x) (items_lines image (xs ++ ys)) found here
  | inr later ↦ first_after (item_line image x) (items_lines image (xs ++ ys)) found later.0 (first_left image xs ys found later.1)
]

pub set_found : (image : Image) (d : Device) (found : List ℕ × List ℕ) → AuditOutcome (items_lines image d.set) (Some found) →
    AuditOutcome (items_lines image (items_of d)) (Some found)
set_found image d found first = first_left image d.set (pending_items d.pending) found first

both_audited : (image : Image) (xs ys : List Item) (r : Option (List ℕ × List ℕ)) → AllHold (items_lines image xs) → AuditOutcome (items_lines image ys) r →
    AuditOutcome (items_lines image (xs ++ ys)) r
both_audited image [] ys r holds said = said
both_audited image (x ∷ xs) ys r holds said =
    let both = all_split (item_line image x) (items_lines image xs) holds in
    audits_after (item_line image x) (items_lines image (xs ++ ys)) r both.0 (both_audited image xs ys r both.1 said)

pub pending_found : (image : Image) (d : Device) (r : Option (List ℕ × List ℕ)) → AuditOutcome (items_lines image d.set) None →
    AuditOutcome (items_lines image (pending_items d.pending)) r → AuditOutcome (items_lines image (items_of d)) r
pending_found image d r holds said = both_audited image d.set (pending_items d.pending) r holds said

-- ---- none is named exactly where each is held

files_lines : (image : Image) (i : Item) (helds : List Held) → HoldsFiles image i.name i.version helds → AllHold (each (held_line image i) helds)
files_lines image i [] holds = tt
files_lines image i (h ∷ helds) holds = (holds.0, files_lines image i helds holds.1)

lines_files : (image : Image) (i : Item) (helds : List Held) → AllHold (each (held_line image i) helds) → HoldsFiles image i.name i.version helds
lines_files image i [] holds = tt
lines_files image i (h ∷ helds) holds = (holds.0, lines_files image i helds holds.1)

items_held : (image : Image) (items : List Item) → HoldsItems image items → AllHold (items_lines image items)
items_held image [] holds = tt
items_held image (i ∷ items) holds = all_both (item_line image i) (items_lines image items) (files_lines image i i.artifacts holds.0)
    (items_held image items holds.1)

held_items : (image : Image) (items : List Item) → AllHold (items_lines image items) → HoldsItems image items
held_items image [] holds = tt
held_items image (i ∷ items) holds =
    let both = all_split (item_line image i) (items_lines image items) holds in
    (lines_files image i i.artifacts both.0, held_items image items both.1)

items_split : (image : Image) (xs ys : List Item) → HoldsItems image (xs ++ ys) → HoldsItems image xs × HoldsItems image ys
items_split image [] ys holds = (tt, holds)
items_split image (x ∷ xs) ys holds = let both = items_split image xs ys holds.1 in ((holds.0, both.0), both.1)

items_joined : (image : Image) (xs ys : List Item) → HoldsItems image xs → HoldsItems image ys → HoldsItems image (xs ++ ys)
items_joined image [] ys xs_held ys_held = ys_held
items_joined image (x ∷ xs) ys xs_held ys_held = (xs_held.0, items_joined image xs ys xs_held.1 ys_held)

pending_held : (image : Image) (o : Option Pending) → HoldsItems image (pending_items o) → IfSome o (λ q. HoldsItems image q.plan.items)
pending_held image None holds = tt
pending_held image (Some q) holds = holds

held_pending : (image : Image) (o : Option Pending) → IfSome o (λ q. HoldsItems image q.plan.items) → HoldsItems image (pending_items o)
held_pending image None holds = tt
held_pending image (Some q) holds = holds

device_held : (image : Image) (d : Device) → AllHold (items_lines image (items_of d)) → HoldsDevice image d
device_held image d holds =
    let both = items_split image d.set (pending_items d.pending) (held_items image (items_of d) holds) in
    record { set = both.0; pending = pending_held image d.pending both.1 }

held_device : (image : Image) (d : Device) → HoldsDevice image d → AllHold (items_lines image (items_of d))
held_device image d holds = items_held image (items_of d) (items_joined image d.set (pending_items d.pending) holds.set
    (held_pending image d.pending holds.pending))

whole_of : (image : Image) (d : Device) (found : Option (List ℕ × List ℕ)) → AuditOutcome (items_lines image (items_of d)) found →
    (found ≡ None) ↔ HoldsDevice image d
whole_of image d None said = ((λ same. device_held image d said), (λ holds. refl))
whole_of image d (Some one) said = (
  (λ same. absurd (cc same)),
  (λ holds. absurd (first_excludes (items_lines image (items_of d)) one (held_device image d holds) said)),
)

pub whole : {E : Type 0} (image : Image) (d : Device) (r : Result (Option (List ℕ × List ℕ)) E) → IfOk r (AuditOutcome (items_lines image (items_of d))) →
    IfOk r (λ found. (found ≡ None) ↔ HoldsDevice image d)
whole image d (Ok found) said = whole_of image d found said
whole image d (Err e) said = tt

-- ---- by the answers of calls

pub read_more : (m file old new : List ℕ) (at n stop step : ℕ) → m ≡ take at file → (n ≡ min (length old) (length (drop at file))) ×
    (new ≡ take n (drop at file) ++ drop n old) → stop ≡ length file → step ≡ min n (stop - at)
    → m ++ take n new ≡ take (at + step) file
read_more m file old new at n stop step is told stops steps =
    let within : n ≤ length (drop at file) = omega (arith, told.0) in
    let left : length (drop at file) ≡ length file - at = length-drop at file in
    let same : n ≡ step = omega (arith, within, left, stops, steps) in
    let piece : length (take n (drop at file)) ≡ n = length-take-le n (drop at file) within in
    let prefix : take n new ≡ take n (drop at file) = ap (take n) told.1 ∙ take-append-le n (take n (drop at file)) (drop n old) (omega (arith, piece)) ∙
    take_all n (take n (drop at file)) (omega (arith, piece)) in
    ap (λ t. t ++ take n new) is ∙ ap (λ t. take at file ++ t) prefix ∙ sym (take-add at n file) ∙ ap (λ k. take (at + k) file) same

pub hashed_file : (image : Image) (file place digest kept : List ℕ) → file ≡ place → digest ≡ sha256 (image file) → digest ≡ kept → sha256 (image place) ≡ kept
hashed_file image file place digest kept is hashed same = ap (λ (f : List ℕ). sha256 (image f)) (sym is) ∙ sym hashed ∙ same

pub said_of : (lines : Table (List ℕ × List ℕ)) (o p : Option (List ℕ × List ℕ)) → o ≡ p → AuditOutcome lines o → AuditOutcome lines p
said_of lines o p is said = subst (λ (x : Option (List ℕ × List ℕ)). AuditOutcome lines x) is said

pub pending_said : {E : Type 0} (image : Image) (d : Device) (r : Result (Option (List ℕ × List ℕ)) E) → AuditOutcome (items_lines image d.set) None →
    IfOk r (AuditOutcome (items_lines image (pending_items d.pending)))
    → IfOk r (AuditOutcome (items_lines image (items_of d)))
pending_said image d (Ok found) holds said = pending_found image d found holds said
pending_said image d (Err e) holds said = tt
