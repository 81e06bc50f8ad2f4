-- Lines whose faults are handed on.
use Rattle.std.proofs.Common.{◌≡◌, ◌⊎◌, [], ◌∷◌, inl, inr, ap, sym, subst, ◌∙◌}
use Rattle.nuc_base.specs.Tables.{Table, AllHold, IsFirst}
use Rattle.local_deploy.specs.Lines.{handed}

module _ {F G : Type 0} (on_fault : F → G) where
  pub handed_hold : (lines : Table F) → AllHold lines → AllHold (handed on_fault lines)
  handed_hold [] h = tt
  handed_hold (line ∷ lines) h = (h.0, handed_hold lines h.1)

  pub handed_first : (lines : Table F) (fault : F) → IsFirst lines fault → IsFirst (handed on_fault lines) (on_fault fault)
  handed_first [] fault h = absurd h
  handed_first (line ∷ lines) fault (inl h) = inl (h.0, ap on_fault h.1)
  handed_first (line ∷ lines) fault (inr h) = inr (h.0, handed_first lines fault h.1)

  -- a fault of theirs, or want of memory, as it is handed on
  pub handed_fault : (memory : F) (lines : Table F) (fault : F) (given : G) → given ≡ on_fault fault → (fault ≡ memory) ⊎ IsFirst lines fault
      → (given ≡ on_fault memory) ⊎ IsFirst (handed on_fault lines) given
  handed_fault memory lines fault given is (inl none) = inl (is ∙ ap on_fault none)
  handed_fault memory lines fault given is (inr first) = inr (subst (IsFirst (handed on_fault lines)) (sym is) (handed_first lines fault first))
