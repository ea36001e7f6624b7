-- What a keeper does where several edits are kept by one commit of its store, or none is.
use Rattle.std.specs.Prelude.{◌≡◌, ◌⊎◌, Result, IsErr, OnOk, OnErr}
use Rattle.book_office.specs.Keeping.{FallsBack, Leftover, Standing, failures_after, one_more}
use Rattle.book_office.specs.declared.keepers.StoreFault.{StoreFault}
use Rattle.book_office_values.specs.declared.offices.Office.{Office}

-- over what a keeper stands for in a round, as if it were kept at that moment; and what work does
module _ {I W : Type 0} (inside : I → Standing) (does : Standing → Standing → W → W → Type 0) where
  -- The work was done over a keeper that began with the Office of this one. Where that is kept, this one stands for what that one stood for,
  -- and a stop leaves what it could leave then; else a stop may still leave that, since it may not be known whether it was kept.
  pub record IsDone (old new : Standing) (before after : W) (result : Result (Unit {0}) StoreFault) : Type 0 where
    pub first : I
    pub last : I
    pub done : does (inside first) (inside last) before after
    pub begins : new.honest → (o : Office) → old.stands o → (inside first).stands o
    pub begins_left : new.honest → (x : Leftover) → (inside first).left x → old.left x
    pub begins_counted : (inside first).failures ≡ old.failures
    pub honest : new.honest → OnOk result (inside last).honest
    pub made : new.honest → OnOk result ((o : Office) → (inside last).stands o → new.stands o)
    pub left_made : new.honest → OnOk result ((x : Leftover) → new.left x → (inside last).left x)
    pub left_kept : new.honest → OnErr result ((x : Leftover) → new.left x → old.left x ⊎ ((inside last).honest × (inside last).left x))
    pub counted : OnOk result (new.failures ≡ (inside last).failures)
    pub counted_once : OnErr result ((new.failures ≡ (inside last).failures) ⊎ (new.failures ≡ one_more (inside last).failures))

  -- nothing was done
  pub record IsNotBegun (old new : Standing) (before after : W) (result : Result (Unit {0}) StoreFault) : Type 0 where
    pub refused : IsErr result
    pub same : after ≡ before
    pub left : new.honest → (x : Leftover) → new.left x → old.left x
    pub counted : new.failures ≡ failures_after result old.failures

  -- A round: work was done over a keeper, and all that it edited is kept; or on an error the Office is as it was, and the work may have
  -- been done, or not.
  pub record IsRound (old new : Standing) (before after : W) (result : Result (Unit {0}) StoreFault) : Type 0 where
    pub was_honest : new.honest → old.honest
    pub falls : FallsBack old.fallback new.fallback
    pub kept : new.honest → OnErr result ((o : Office) → old.stands o → new.stands o)
    pub done : IsDone old new before after result ⊎ IsNotBegun old new before after result
