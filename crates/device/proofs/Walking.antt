-- A walk over the entries of a front, at the beginning of a journal.
use Rattle.std.proofs.Common.{◌≡◌, ◌⊎◌, inl, inr, ℕ, ◌+◌, ◌<◌, ◌≤◌, List, [], ◌∷◌, ◌++◌, length, map, Option, Some, None, refl, sym, ap, subst, ◌∙◌}
use Rattle.std.proofs.Common.{append_assoc, arith, Result, Ok, Err}
use Rattle.std.specs.List.{AllZip}
use Rattle.std.proofs.lemmas.List.{append-nil, length-append, length-map}
use Rattle.gate_log.specs.Place.{place_behind, IsEntryAt}
use Rattle.records.specs.Stored.{Record, Turned, Grouped, Kept}
use Rattle.records.specs.Layout.{Spelled}
use Rattle.records.proofs.Layouts.{one_record}
use Rattle.device.specs.declared.device.Device as code
use Rattle.device.specs.declared.fault.ReplayFault.{ReplayFault}
use Rattle.device.specs.declared.fault.ReplayFault.TheVariants as fault
use Rattle.device.specs.declared.fault.RestoreFault.{RestoreFault}
use Rattle.device.specs.declared.fault.RestoreFault.TheVariants as restore
use Rattle.device.specs.Devices.{Device, device_view}
use Rattle.device.specs.Fronts.{ended, stock_of, IsFrontOf, IsNoFront}
use Rattle.device.specs.Rebuilt.{Building, device_of, MayRebuild, BeginsAs, MayComeNext, with_next, IsWhole, IsOrderly, IsBuilt, NextOutcome, FinishOutcome}
use Rattle.device.specs.Standing.{BeginsNoFront, Walked, CamePayload, CameEntry, FrontBefore, TookFront}
use Rattle.device.proofs.Beginnings.{heads, front_long, same_spelled}
use Rattle.device.proofs.Fronting.{begins_built, built_more, comes, no_empty_front, is_all, is_whole, none_or_some, whole_front, front_begins}
use Rattle.device.proofs.Marching.{place_more, place_on}
use Rattle.device.proofs.Restoring.{nothing_left}

zip_more : (ps : List (List ℕ)) (rs : List Record) (p : List ℕ) (r : Record) → AllZip Spelled ps rs → Spelled p r → AllZip Spelled (ps ++ p ∷ []) (rs ++ r ∷ [])
zip_more [] [] p r zip spelled = (spelled, tt)
zip_more [] (s ∷ rs) p r zip spelled = absurd zip
zip_more (q ∷ ps) [] p r zip spelled = absurd zip
zip_more (q ∷ ps) (s ∷ rs) p r zip spelled = (zip.0, zip_more ps rs p r zip.1 spelled)

pub walks_on : (payloads others : List (List ℕ)) (at to : ℕ) (p : List ℕ) (r : Record) (old new : Building) (w : Walked payloads at old) → w.rest ≡ p ∷
    others → to ≡ at + 5 + length p → Spelled p r
    → MayComeNext old r → new ≡ with_next old r → Walked payloads to new
walks_on payloads others at to p r old new w next to_is spelled may is = record {
  done = w.done ++ p ∷ [];
  rest = others;
  split = w.split ∙ ap (λ (l : List (List ℕ)). w.done ++ l) next ∙ sym (append_assoc w.done (p ∷ []) others);
  at_is = let place = w.at_is in let more = place_more w.done p in omega (arith, place, to_is, more);
  records = w.records ++ r ∷ [];
  spelled = zip_more w.done w.records p r w.spelled spelled;
  built = built_more w.records r old new w.built may is;
}

-- ---- where it stops, no front begins the journal

-- two ways to cut a list: the one is a beginning of the other
record Longer {A : Type 0} (short long behind more : List A) : Type 0 where
  between : List A
  long_is : long ≡ short ++ between
  behind_is : behind ≡ between ++ more

cut : {A : Type 0} (a b c e : List A) → a ++ b ≡ c ++ e → Longer a c b e ⊎ Longer c a e b
cut [] b c e is = inl (record { between = c; long_is = refl; behind_is = is })
cut (x ∷ a) b [] e is = inr (record { between = x ∷ a; long_is = refl; behind_is = sym is })
cut (x ∷ a) b (y ∷ c) e is =
    let head : x ≡ y = cc in
    let tail : a ++ b ≡ c ++ e = cc in
    elim (cut a b c e tail) [
      | inl h ↦ inl (record { between = h.between; long_is = let long = h.long_is in cc; behind_is = h.behind_is })
      | inr h ↦ inr (record { between = h.between; long_is = let long = h.long_is in cc; behind_is = h.behind_is })
    ]

record Parts (ps qs : List (List ℕ)) (records : List Record) : Type 0 where
  first : List Record
  second : List Record
  is : records ≡ first ++ second
  zip : AllZip Spelled ps first
  rest : AllZip Spelled qs second

parts : (ps qs : List (List ℕ)) (records : List Record) → AllZip Spelled (ps ++ qs) records → Parts ps qs records
parts [] qs records zip = record { first = []; second = records; is = refl; zip = tt; rest = zip }
parts (p ∷ ps) qs [] zip = absurd zip
parts (p ∷ ps) qs (r ∷ rs) zip =
    let p2 = parts ps qs rs zip.1 in
    record { first = r ∷ p2.first; second = p2.second; is = ap (λ (l : List Record). r ∷ l) p2.is; zip = (zip.0, p2.zip); rest = p2.rest }

-- the records of a front that begins the journal go on from those that were taken, or they end among them
record GoesOn (payloads : List (List ℕ)) (rest : List (List ℕ)) (records whole : List Record) : Type 0 where
  behind : List Record
  between : List (List ℕ)
  more : List (List ℕ)
  is : whole ≡ records ++ behind
  zip : AllZip Spelled between behind
  rest_is : rest ≡ between ++ more

built_long : (records : List Record) (b : Building) → IsBuilt records b → length records ≡ 1 + length b.groups + length b.set + length b.closed
built_long records b built =
    let whole = ap length built.is in
    let first = length-append (map Grouped b.groups) (map Kept b.set ++ map ended b.closed) in
    let second = length-append (map Kept b.set) (map ended b.closed) in
    let g = length-map b.groups Grouped in
    let i = length-map b.set Kept in
    let c = length-map b.closed ended in
    omega (arith, whole, first, second, g, i, c)

-- a front among the records that were taken is all of them
nothing_more : (whole more : List Record) (b : Building) (d : Device) → IsBuilt (whole ++ more) b → IsFrontOf whole d → length more ≡ 0
nothing_more whole more b d built of =
    let h = heads whole d of in
    let long = front_long whole d of in
    let all = built_long (whole ++ more) b built in
    let both = length-append whole more in
    let turn : Turned h.number h.origin (length d.groups) (length d.set) (length d.closed) ∷ (stock_of d ++ more)
    ≡ Turned built.number b.origin (length b.groups + b.groups_to_come) (length b.set + b.items_to_come) (length b.closed + b.closed_to_come) ∷
    stock_of (device_of b)
    = sym (ap (λ (l : List Record). l ++ more) h.is) ∙ built.is in
    let g : length d.groups ≡ length b.groups + b.groups_to_come = cc in
    let i : length d.set ≡ length b.set + b.items_to_come = cc in
    let c : length d.closed ≡ length b.closed + b.closed_to_come = cc in
    omega (arith, long, all, both, g, i, c)

goes_on : (payloads front after : List (List ℕ)) (whole : List Record) (at : ℕ) (b : Building) (d : Device) (w : Walked payloads at b) →
    payloads ≡ front ++ after → AllZip Spelled front whole → IsFrontOf whole d
    → GoesOn payloads w.rest w.records whole
goes_on payloads front after whole at b d w split zip of = elim (cut w.done w.rest front after (sym w.split ∙ split)) [
  | inl h ↦ (
      let p = parts w.done h.between whole (subst (λ (l : List (List ℕ)). AllZip Spelled l whole) h.long_is zip) in
      let same = same_spelled w.done p.first w.records p.zip w.spelled in
      record {
        behind = p.second;
        between = h.between;
        more = after;
        is = p.is ∙ ap (λ (l : List Record). l ++ p.second) same;
        zip = p.rest;
        rest_is =
            h.behind_is;
      })
  | inr h ↦ (
      let p = parts front h.between w.records (subst (λ (l : List (List ℕ)). AllZip Spelled l w.records) h.long_is w.spelled) in
      let same = same_spelled front p.first whole p.zip zip in
      let records = p.is ∙ ap (λ (l : List Record). l ++ p.second) same in
      let none = nothing_left p.second (nothing_more whole p.second b d (subst (λ (l : List Record). IsBuilt l b) records w.built) of) in
      let all : w.records ≡ whole = records ∙ ap (λ (l : List Record). whole ++ l) none ∙ append-nil whole in
      record { behind = []; between = []; more = w.rest; is = sym all ∙ sym (append-nil w.records); zip = tt; rest_is = refl })
]

whole_then : (records whole : List Record) (b : Building) (d : Device) → IsBuilt records b → whole ≡ records ++ [] → IsFrontOf whole d → IsWhole b
whole_then records whole b d built is of = is_whole records b d built (subst (λ (l : List Record). IsFrontOf l d) (is ∙ append-nil records) of)

-- the entries end before the front is whole, or it is whole and no front of a sound device
pub stops_at_end : (payloads : List (List ℕ)) (at : ℕ) (b : Building) (w : Walked payloads at b) → w.rest ≡ [] → (IsWhole b → ⊥) → BeginsNoFront payloads
stops_at_end payloads at b w none bad front after whole split zip d of =
    let g = goes_on payloads front after whole at b d w split zip of in
    bad (by g.between g.behind (sym none ∙ g.rest_is) g.zip g.is)
  where
    by : (between : List (List ℕ)) (behind : List Record) → [] ≡ between ++ (goes_on payloads front after whole at b d w split zip of).more →
        AllZip Spelled between behind → whole ≡ w.records ++ behind → IsWhole b
    by [] [] is zipped same = whole_then w.records whole b d w.built same of
    by [] (r ∷ rs) is zipped same = absurd zipped
    by (p ∷ ps) behind is zipped same = absurd cc

pub stops_whole : (payloads : List (List ℕ)) (at : ℕ) (b : Building) (w : Walked payloads at b) → b.groups_to_come ≡ 0 → b.items_to_come ≡ 0 →
    b.closed_to_come ≡ 0 → (IsWhole b → ⊥) → BeginsNoFront payloads
stops_whole payloads at b w none nothing no_more bad front after whole split zip d of =
    let g = goes_on payloads front after whole at b d w split zip of in
    let all = is_all w.records g.behind b d w.built (subst (λ (l : List Record). IsFrontOf l d) g.is of) none nothing no_more in
    bad (whole_then w.records whole b d w.built (g.is ∙ ap (λ (l : List Record). w.records ++ l) (sym all.0)) of)

-- the next payload spells no record that comes
pub stops_before : (payloads others : List (List ℕ)) (at : ℕ) (p : List ℕ) (b : Building) (w : Walked payloads at b) → w.rest ≡ p ∷ others →
    0 < b.groups_to_come + b.items_to_come + b.closed_to_come
    → ((r : Record) → Spelled p r → MayComeNext b r → ⊥) → BeginsNoFront payloads
stops_before payloads others at p b w next some bad front after whole split zip d of =
    let g = goes_on payloads front after whole at b d w split zip of in
    by g.between g.behind g.more (sym next ∙ g.rest_is) g.zip g.is
  where
    by : (between : List (List ℕ)) (behind : List Record) (more : List (List ℕ)) → p ∷ others ≡ between ++ more → AllZip Spelled between behind →
        whole ≡ w.records ++ behind → ⊥
    by [] [] more is zipped same =
        let all = whole_then w.records whole b d w.built same of in
        let none = all.no_groups in
        let nothing = all.no_items in
        let no_more = all.no_closed in
        absurd (omega (arith, some, none, nothing, no_more))
    by [] (r ∷ rs) more is zipped same = absurd zipped
    by (q ∷ qs) [] more is zipped same = absurd zipped
    by (q ∷ qs) (r ∷ rs) more is zipped same =
        let head : q ≡ p = cc in
        bad r (subst (λ (z : List ℕ). Spelled z r) head zipped.0) (comes w.records rs r b d w.built (subst (λ (l : List Record). IsFrontOf l d) same of))

-- ---- the beginning

pub walks_first : (payloads others : List (List ℕ)) (to : ℕ) (p : List ℕ) (r : Record) (b : Building) → payloads ≡ p ∷ others → to ≡ 0 + 5 + length p →
    Spelled p r → MayRebuild r → BeginsAs r b → Walked payloads to b
walks_first payloads others to p r b is to_is spelled begins begun = record {
  done = p ∷ [];
  rest = others;
  split = is;
  at_is = omega (arith, to_is);
  records = r ∷ [];
  spelled = (spelled, tt);
  built = begins_built r b begins begun;
}

pub stops_first : (payloads others : List (List ℕ)) (p : List ℕ) (r : Record) → payloads ≡ p ∷ others → Spelled p r → (MayRebuild r → ⊥)
    → BeginsNoFront payloads
stops_first payloads others p r is spelled bad [] after [] split zip d of = no_empty_front d of
stops_first payloads others p r is spelled bad [] after (s ∷ ss) split zip d of = absurd zip
stops_first payloads others p r is spelled bad (q ∷ qs) after [] split zip d of = absurd zip
stops_first payloads others p r is spelled bad (q ∷ qs) after (s ∷ ss) split zip d of =
    let head : q ≡ p = cc in
    let same : s ≡ r = one_record p s r (subst (λ (z : List ℕ). Spelled z s) head zip.0) spelled in
    bad (subst MayRebuild same (front_begins s ss d of))

-- ---- as the code walks

pub came_payload : (r : Record) (p : List ℕ) (old new : Building) (result : Result (Unit {0}) RestoreFault) → Spelled p r → NextOutcome r old new result →
    CamePayload old p new result
came_payload r p old new (Ok x) spelled came = (r, spelled, came.0, came.1)
came_payload r p old new (Err restore.NotSound) spelled bad = λ s other may. bad (subst (MayComeNext old) (one_record p s r other spelled) may)
came_payload r p old new (Err restore.NoMemory) spelled came = tt

-- what stands next
pub record Ahead (rest : List (List ℕ)) : Type 0 where
  pub first : List ℕ
  pub others : List (List ℕ)
  pub is : rest ≡ first ∷ others

pub ahead : (payloads : List (List ℕ)) (end at : ℕ) (b : Building) (w : Walked payloads at b) → end ≡ place_behind payloads → at < end → Ahead w.rest
ahead payloads end at b w end_is lt = by w.rest w.split
  where
    by : (rest : List (List ℕ)) → payloads ≡ w.done ++ rest → Ahead rest
    by [] split =
        let same = ap place_behind (split ∙ append-nil w.done) in
        let place = w.at_is in
        absurd (omega (arith, lt, place, end_is, same))
    by (p ∷ ps) split = record { first = p; others = ps; is = refl }

at_end : (payloads : List (List ℕ)) (end at : ℕ) (b : Building) (w : Walked payloads at b) → end ≡ place_behind payloads → end ≤ at → w.rest ≡ []
at_end payloads end at b w end_is le = by w.rest w.split
  where
    by : (rest : List (List ℕ)) → payloads ≡ w.done ++ rest → rest ≡ []
    by [] split = refl
    by (p ∷ ps) split =
        let same = ap place_behind split in
        let on = place_on w.done (p ∷ ps) in
        let place = w.at_is in
        absurd (omega (arith, le, place, end_is, same, on))

-- it is an entry of any journal that stands behind these payloads
pub walks_at : {J Image : Type 0} (stands : J → Image → List (List ℕ) → Type 0) (log : J) (image : Image) (payloads : List (List ℕ)) (at : ℕ) (b : Building)
    (w : Walked payloads at b) (a : Ahead w.rest)
    → stands log image payloads → IsEntryAt stands log image at a.first
walks_at stands log image payloads at b w a on =
    record { before = w.done; after = a.others; on = subst (stands log image) (w.split ∙ ap (λ (l : List (List ℕ)). w.done ++ l) a.is) on; at_is = w.at_is }

pub entry_fault : (payloads : List (List ℕ)) (at : ℕ) (b c : Building) (w : Walked payloads at b) (a : Ahead w.rest) (f : ReplayFault) →
    0 < b.groups_to_come + b.items_to_come + b.closed_to_come
    → CameEntry b at a.first c (Err f) → TookFront payloads (Err f)
entry_fault payloads at b c w a fault.Disk some came = tt
entry_fault payloads at b c w a (fault.Damaged place) some came = (came.0, stops_before payloads a.others at a.first b w a.is some came.1)
entry_fault payloads at b c w a fault.NoMemory some came = tt

pub front_taken : (payloads : List (List ℕ)) (at : ℕ) (b : Building) (device : code.Device) → Walked payloads at b → IsOrderly b → FinishOutcome b (Ok device) →
    FrontBefore payloads (device_view device) at
front_taken payloads at b device w are whole = record {
  front = w.done;
  after = w.rest;
  split = w.split;
  place = w.at_is;
  records = w.records;
  spelled = w.spelled;
  is = subst (IsFrontOf w.records) (sym whole.1) (whole_front w.records b are whole.0 w.built);
}

no_more : (n m : ℕ) → n ≤ m → (0 < m → ⊥) → n ≡ 0
no_more n m le none = elim (none_or_some n) [
  | inl is ↦ is
  | inr lt ↦ absurd (none (omega (arith, lt, le)))
]

-- no record is still to come, or no entry is left
pub stops : (payloads : List (List ℕ)) (end at : ℕ) (b : Building) → Walked payloads at b → end ≡ place_behind payloads
    → (0 < b.groups_to_come + b.items_to_come + b.closed_to_come → ⊥) ⊎ (end ≤ at) → (IsWhole b → ⊥) → BeginsNoFront payloads
stops payloads end at b w end_is (inl none) bad =
    let all = b.groups_to_come + b.items_to_come + b.closed_to_come in
    stops_whole payloads at b w (no_more b.groups_to_come all (omega arith) none) (no_more b.items_to_come all (omega arith) none)
    (no_more b.closed_to_come all (omega arith) none) bad
stops payloads end at b w end_is (inr le) bad = stops_at_end payloads at b w (at_end payloads end at b w end_is le) bad

pub walked_on : (payloads : List (List ℕ)) (at to : ℕ) (b c : Building) (w : Walked payloads at b) (a : Ahead w.rest) → CameEntry b at a.first c (Ok to) →
    Walked payloads to c
walked_on payloads at to b c w a came = walks_on payloads a.others at to a.first came.0.0 b c w a.is came.1 came.0.1 came.0.2 came.0.3
