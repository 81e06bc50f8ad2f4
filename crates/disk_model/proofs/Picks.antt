-- The picks are images that a crash may leave.
use Rattle.std.proofs.Common.{◌≡◌, inl, inr, ⊎_elim, ℕ, ◌+◌, ◌-◌, ◌<◌, ◌≤◌, min, max, Bool, true, false, if◌then◌else◌, List, [], ◌∷◌, ◌++◌, length, get_or}
use Rattle.std.proofs.Common.{take, drop, Option, Some, None, replicate, refl, sym, ◌∙◌, ap, subst, arith, length-append, length-take}
use Rattle.std.specs.Str.{bytes_eq}
use Rattle.std.proofs.lemmas.Bool.{cases_lt}
use Rattle.std.proofs.lemmas.List.{get_or-take, get_or-drop, get_or_append_left, get_or-append_right, get_or-replicate, length-replicate, length-take-le}
use Rattle.std.proofs.lemmas.Slice.Eq.{bytes_eq-Decides}
use Rattle.disk_model.specs.Disk.{Image}
use Rattle.disk_model.specs.Crash.{Unsynced, stable, IsLoose, IsFilled, resized, rewritten, unsynced_step, unsynced_after, all_stable}
use Rattle.disk_model.specs.Picked.{picked_step, picked_after}
use Rattle.disk_model.specs.Put.{overwritten}
use Rattle.disk_model.specs.Record.{seen_step, seen_after, left_after}
use Rattle.disk_model.specs.declared.record.Call.{Call}
use Rattle.disk_model.specs.declared.record.Call.TheVariants.{Write as Written, Cut as CutTo, Sync as Synced}
use Rattle.disk_model.proofs.Closed.{closed, length-over}

pub picked-push : (fill : Option ℕ) (calls : List Call) (call : Call) (seen image : Image)
    → picked_after fill (calls ++ call ∷ []) seen image ≡ picked_step fill call (seen_after calls seen) (picked_after fill calls seen image)
picked-push fill [] call seen image = refl
picked-push fill (k ∷ calls) call seen image = picked-push fill calls call (seen_step k seen) (picked_step fill k seen image)

-- bytes with others written over them, place by place
over_before : (at : ℕ) (w old : List ℕ) (i : ℕ) → at ≤ length old → i < at → get_or (overwritten at w old) i 0 ≡ get_or old i 0
over_before at w old i le lt =
    let size : length (take at old) ≡ at = length-take-le at old le in
    get_or_append_left (take at old ++ w) (drop (at + length w) old) 0 i (omega (arith, size, length-append (take at old) w))
    ∙ get_or_append_left (take at old) w 0 i (omega (arith, size)) ∙ get_or-take at old i 0 lt

over_within : (at : ℕ) (w old : List ℕ) (i : ℕ) → at ≤ length old → at ≤ i → i < at + length w → get_or (overwritten at w old) i 0 ≡ get_or w (i - at) 0
over_within at w old i le from lt =
    let size : length (take at old) ≡ at = length-take-le at old le in
    get_or_append_left (take at old ++ w) (drop (at + length w) old) 0 i (omega (arith, size, length-append (take at old) w))
    ∙ get_or-append_right (take at old) w at i 0 size from

over_behind : (at : ℕ) (w old : List ℕ) (i : ℕ) → at ≤ length old → at + length w ≤ i → get_or (overwritten at w old) i 0 ≡ get_or old i 0
over_behind at w old i le from =
    let size : length (take at old ++ w) ≡ at + length w = omega (arith, length-append (take at old) w, length-take-le at old le) in
    get_or-append_right (take at old ++ w) (drop (at + length w) old) (at + length w) i 0 size from
    ∙ get_or-drop (at + length w) old (i - (at + length w)) 0 ∙ ap (λ (k : ℕ). get_or old k 0) (omega arith)

-- a range filled
fill_write : (byte : ℕ) (u : Unsynced) (seen len at n : ℕ) (w image : List ℕ) → seen ≤ u.greatest → at ≤ seen → len ≡ max seen (at + n) → length w ≡ n →
    ((k : ℕ) → k < n → get_or w k 0 ≡ byte)
    → IsFilled byte u image → IsFilled byte (rewritten len at n u) (overwritten at w image)
fill_write byte u seen len at n w image high within is size all was = record {
  longest = whole ∙ omega (arith, was.longest, is, size);
  loose = λ i lt loose. elim (cases_lt i at) [
    | inl before ↦ over_before at w image i fits before ∙ was.loose i (omega arith) (outside i loose (λ r. omega (arith, r.0)))
    | inr from ↦ elim (cases_lt i (at + n)) [
      | inl inside ↦ over_within at w image i fits from (omega (arith, size)) ∙ all (i - at) (omega arith)
      | inr behind ↦ over_behind at w image i fits (omega (arith, size)) ∙ was.loose i (omega (arith, lt, whole, size))
          (outside i loose (λ r. omega (arith, r.1)))
    ]
  ];
  firm = λ i lt firm. elim (cases_lt i at) [
    | inl before ↦ over_before at w image i fits before ∙ was.firm i (omega arith) (λ loose. firm (more i loose))
    | inr from ↦ elim (cases_lt i (at + n)) [
      | inl inside ↦ absurd (firm (inr (inl (from, inside))))
      | inr behind ↦ over_behind at w image i fits (omega (arith, size)) ∙ was.firm i (omega (arith, lt, whole, size)) (λ loose. firm (more i loose))
    ]
  ];
}
  where
    fits : at ≤ length image
    fits = omega (arith, was.longest)

    whole : length (overwritten at w image) ≡ max (length image) (at + length w)
    whole = length-over at w image ∙ omega (arith, fits)

    outside : (i : ℕ) → IsLoose (rewritten len at n u) i → ((at ≤ i) × (i < at + n) → ⊥) → IsLoose u i
    outside i loose out = ⊎_elim (λ past. inl past) (λ v. ⊎_elim (λ r. absurd (out r)) (λ x. inr x) v) loose

    more : (i : ℕ) → IsLoose u i → IsLoose (rewritten len at n u) i
    more i loose = ⊎_elim (λ past. inl past) (λ v. inr (inr v)) loose

-- what is read, and what was held, have lengths between the least and the greatest
abbrev Wide : Image → (List ℕ → Unsynced) → Type 0
Wide seen of = (name : List ℕ) → ((of name).least ≤ length (seen name)) × (length (seen name) ≤ (of name).greatest) ×
    ((of name).least ≤ length (of name).held) × (length (of name).held ≤ (of name).greatest)

wide_step : (call : Call) (seen : Image) (of : List ℕ → Unsynced) → Wide seen of → Wide (seen_step call seen) (unsynced_step call seen of)
wide_step (Written file at bytes) seen of wide name =
    let u = of file in
    let over = overwritten at bytes (seen file) in
    let v = rewritten (length over) (min at (length (seen file))) (length bytes) u in
    elim (bytes_eq name file) as (λ b. ((if b then v else of name).least ≤ length (if b then over else seen name)) ×
    (length (if b then over else seen name) ≤ (if b then v else of name).greatest)
    × ((if b then v else of name).least ≤ length (if b then v else of name).held) ×
    (length (if b then v else of name).held ≤ (if b then v else of name).greatest)) [
      | true ↦ (omega arith, omega arith, omega (arith, (wide file).2), omega (arith, (wide file).3))
      | false ↦ wide name
    ]
wide_step (CutTo file n) seen of wide name =
    let u = of file in
    let over = take n (seen file) in
    let v = resized (length over) u in
    elim (bytes_eq name file) as (λ b. ((if b then v else of name).least ≤ length (if b then over else seen name)) ×
    (length (if b then over else seen name) ≤ (if b then v else of name).greatest)
    × ((if b then v else of name).least ≤ length (if b then v else of name).held) ×
    (length (if b then v else of name).held ≤ (if b then v else of name).greatest)) [
      | true ↦ (omega arith, omega arith, omega (arith, (wide file).2), omega (arith, (wide file).3))
      | false ↦ wide name
    ]
wide_step (Synced file) seen of wide name = by_test (bytes_eq name file) refl
  where
    v : Unsynced
    v = stable (seen file)

    by_test : (b : Bool) → bytes_eq name file ≡ b → ((if bytes_eq name file then v else of name).least ≤ length (seen name)) ×
        (length (seen name) ≤ (if bytes_eq name file then v else of name).greatest)
        × ((if bytes_eq name file then v else of name).least ≤ length (if bytes_eq name file then v else of name).held) ×
        (length (if bytes_eq name file then v else of name).held ≤ (if bytes_eq name file then v else of name).greatest)
    by_test b is = subst (λ (t : Bool). ((if t then v else of name).least ≤ length (seen name)) × (length (seen name) ≤ (if t then v else of name).greatest)
        × ((if t then v else of name).least ≤ length (if t then v else of name).held) ×
        (length (if t then v else of name).held ≤ (if t then v else of name).greatest)) (sym is) (at_test b is)
      where
        at_test : (b : Bool) → bytes_eq name file ≡ b → ((if b then v else of name).least ≤ length (seen name)) ×
            (length (seen name) ≤ (if b then v else of name).greatest)
            × ((if b then v else of name).least ≤ length (if b then v else of name).held) ×
            (length (if b then v else of name).held ≤ (if b then v else of name).greatest)
        at_test true same =
            let size : length (seen name) ≡ length (seen file) = ap (λ (n : List ℕ). length (seen n)) ((bytes_eq-Decides name file).0 same) in
            (omega (arith, size), omega (arith, size), omega arith, omega arith)
        at_test false same = wide name

-- the writes that aren't stable lost
abbrev IsHeld : Image → (List ℕ → Unsynced) → Type 0
IsHeld image of = (name : List ℕ) → image name ≡ (of name).held

held_step : (call : Call) (seen image : Image) (of : List ℕ → Unsynced) → IsHeld image of → IsHeld (picked_step None call seen image)
    (unsynced_step call seen of)
held_step (Written file at bytes) seen image of held name = by_test (bytes_eq name file) refl
  where
    v : Unsynced
    v = rewritten (length (overwritten at bytes (seen file))) (min at (length (seen file))) (length bytes) (of file)

    by_test : (b : Bool) → bytes_eq name file ≡ b → image name ≡ (if bytes_eq name file then v else of name).held
    by_test true is = held name ∙ ap (λ (n : List ℕ). (of n).held) ((bytes_eq-Decides name file).0 is) ∙ sym
        (ap (λ (b : Bool). (if b then v else of name).held) is)
    by_test false is = held name ∙ sym (ap (λ (b : Bool). (if b then v else of name).held) is)
held_step (CutTo file n) seen image of held name = by_test (bytes_eq name file) refl
  where
    v : Unsynced
    v = resized (length (take n (seen file))) (of file)

    by_test : (b : Bool) → bytes_eq name file ≡ b → image name ≡ (if bytes_eq name file then v else of name).held
    by_test true is = held name ∙ ap (λ (m : List ℕ). (of m).held) ((bytes_eq-Decides name file).0 is) ∙ sym
        (ap (λ (b : Bool). (if b then v else of name).held) is)
    by_test false is = held name ∙ sym (ap (λ (b : Bool). (if b then v else of name).held) is)
held_step (Synced file) seen image of held name =
    elim (bytes_eq name file) as (λ b. (if b then seen file else image name) ≡ (if b then stable (seen file) else of name).held) [
      | true ↦ refl
      | false ↦ held
          name
    ]

-- each byte that isn't stable this one
abbrev AreFilled : ℕ → Image → (List ℕ → Unsynced) → Type 0
AreFilled byte image of = (name : List ℕ) → IsFilled byte (of name) (image name)

fresh : (byte : ℕ) (s : List ℕ) → IsFilled byte (stable s) s
fresh byte s = record {
  longest = refl;
  loose = λ i lt loose. absurd (⊎_elim (λ past. omega arith) (λ none. none) loose);
  firm = λ i lt firm. refl;
}

fill_step : (byte : ℕ) (call : Call) (seen image : Image) (of : List ℕ → Unsynced) → Wide seen of → AreFilled byte image of →
    AreFilled byte (picked_step (Some byte) call seen image) (unsynced_step call seen of)
fill_step byte (Written file at bytes) seen image of wide was name =
    let place = min at (length (seen file)) in
    let len = length (overwritten at bytes (seen file)) in
    let n = length bytes in
    let done = fill_write byte (of file) (length (seen file)) len place n (replicate n byte) (image file) (wide file).1 (omega arith)
    (length-over at bytes (seen file)) (length-replicate n byte)
    (λ k lt. get_or-replicate n k byte 0 lt) (was file) in
    elim (bytes_eq name file) as (λ b. IsFilled byte (if b then rewritten len place n (of file) else of name)
    (if b then overwritten place (replicate n byte) (image file) else image name)) [ true ↦ done | false ↦ was name ]
fill_step byte (CutTo file n) seen image of wide was name = by_test (bytes_eq name file) refl
  where
    v : Unsynced
    v = resized (length (take n (seen file))) (of file)

    resize : IsFilled byte v (image file)
    resize = record {
      longest = (was file).longest ∙ omega (arith, length-take n (seen file), (wide file).1);
      loose = (was file).loose;
      firm = (was file).firm;
    }

    by_test : (b : Bool) → bytes_eq name file ≡ b → IsFilled byte (if bytes_eq name file then v else of name) (image name)
    by_test true is = subst (λ (b : Bool). IsFilled byte (if b then v else of name) (image name)) (sym is)
        (subst (λ (m : List ℕ). IsFilled byte v (image m)) (sym ((bytes_eq-Decides name file).0 is)) resize)
    by_test false is = subst (λ (b : Bool). IsFilled byte (if b then v else of name) (image name)) (sym is) (was name)
fill_step byte (Synced file) seen image of wide was name =
    elim (bytes_eq name file) as (λ b. IsFilled byte (if b then stable (seen file) else of name) (if b then seen file else image name)) [
      | true ↦ fresh byte
          (seen file)
      | false ↦ was name
    ]

wide_start : (start : Image) → Wide start (all_stable start)
wide_start start name = (omega arith, omega arith, omega arith, omega arith)

wide_after : (calls : List Call) (seen : Image) (of : List ℕ → Unsynced) → Wide seen of → Wide (seen_after calls seen) (unsynced_after calls seen of)
wide_after [] seen of wide = wide
wide_after (call ∷ calls) seen of wide = wide_after calls (seen_step call seen) (unsynced_step call seen of) (wide_step call seen of wide)

held_from : (calls : List Call) (seen image : Image) (of : List ℕ → Unsynced) → IsHeld image of → IsHeld (picked_after None calls seen image)
    (unsynced_after calls seen of)
held_from [] seen image of held = held
held_from (call ∷ calls) seen image of held = held_from calls (seen_step call seen) (picked_step None call seen image) (unsynced_step call seen of)
    (held_step call seen image of held)

fill_from : (byte : ℕ) (calls : List Call) (seen image : Image) (of : List ℕ → Unsynced) → Wide seen of → AreFilled byte image of →
    AreFilled byte (picked_after (Some byte) calls seen image) (unsynced_after calls seen of)
fill_from byte [] seen image of wide was = was
fill_from byte (call ∷ calls) seen image of wide was =
    fill_from byte calls (seen_step call seen) (picked_step (Some byte) call seen image) (unsynced_step call seen of) (wide_step call seen of wide)
    (fill_step byte call seen image of wide was)

-- the files as they were last made stable
pub old_is_held : (calls : List Call) (start : Image) (name : List ℕ) → picked_after None calls start start name
    ≡ (unsynced_after calls start (all_stable start) name).held
old_is_held calls start = held_from calls start start (all_stable start) (λ name. refl)

-- the files filled
pub fill_is_filled : (byte : ℕ) (calls : List Call) (start : Image) (name : List ℕ) → IsFilled byte (unsynced_after calls start (all_stable start) name)
    (picked_after (Some byte) calls start start name)
fill_is_filled byte calls start = fill_from byte calls start start (all_stable start) (wide_start start) (λ name. fresh byte (start name))

pub old_is_left : (calls : List Call) (start c : Image) → ((name : List ℕ) → c name ≡ (unsynced_after calls start (all_stable start) name).held) →
    left_after calls start c
old_is_left calls start c held = (closed calls start c).1 (λ name.
    let wide = wide_after calls start (all_stable start) (wide_start start) name in
    record {
      no_shorter = omega (arith, wide.2, ap length (held name));
      no_longer = omega (arith, wide.3, ap length (held name));
      stays = λ i lt firm. ap (λ (l : List ℕ). get_or l i 0) (held name);
    })

pub fill_is_left : (byte : ℕ) (calls : List Call) (start c : Image) →
    ((name : List ℕ) → IsFilled byte (unsynced_after calls start (all_stable start) name) (c name)) → left_after calls start c
fill_is_left byte calls start c filled_as = (closed calls start c).1 (λ name.
    let wide = wide_after calls start (all_stable start) (wide_start start) name in
    record {
      no_shorter = omega (arith, wide.2, wide.3, (filled_as name).longest);
      no_longer = omega (arith, (filled_as name).longest);
      stays = (filled_as name).firm;
    })
