-- From a reply of the machine to what is owed for it.
use Rattle.std.proofs.Common.{◌≡◌, ◌≢◌, ◌⊎◌, ℕ, Bool, true, false, List, [], Option, Some, None, Ok, Err, refl, sym, ap, ◌∙◌, subst, inl, inr}
use Rattle.book_log_replies.specs.Effects.{effect_of, no_effect}
use Rattle.book_log_replies.specs.Replies.{denial_in}
use Rattle.book_log_replies.specs.declared.replies.Effect.{Effect}
use Rattle.book_log_service.proofs.Foreseen.{foreseen_comes}
use Rattle.book_log_service.specs.Drafts.{AreDrafts, IsOfDrafts}
use Rattle.book_log_service.specs.Foreseeing.{foreseen}
use Rattle.book_log_service.specs.declared.drafts.Drafts.{Drafts}
use Rattle.book_log_service.specs.Kept.{IsSpared, owed_text, spare_text}
use Rattle.book_log_service.specs.Settling.{IsMadeText, Settles, Withdraws}
use Rattle.book_log_service.specs.Spelling.{IsDenial, Spells}
use Rattle.book_log_service.specs.Texts.{IsTextBy, IsUnavailableText}
use Rattle.book_machine.specs.Asking.{IsWellFormed}
use Rattle.book_machine.specs.Laws.{TellingRepliesChangeNothing}
use Rattle.book_machine.specs.Promises.{ServePromise}
use Rattle.book_machine.specs.Refusals.{refused}
use Rattle.book_machine.specs.declared.messages.Content.{Content}
use Rattle.book_machine.specs.declared.messages.Content.TheVariants as content
use Rattle.book_machine.specs.declared.messages.Reply.{Reply}
use Rattle.book_machine.specs.declared.messages.Request.{Request}
use Rattle.book_machine.specs.declared.refusals.Refusal.TheVariants.{Unavailable}
use Rattle.book_machine.specs.Runs.{Call, MayLeave}
use Rattle.book_machine.specs.Steps.{Serves}
use Rattle.book_office.specs.Keeping.{Leftover, Reads, Standing, failures_after_fault, one_more}
use Rattle.book_office.specs.Sound.{IsSound}
use Rattle.book_office.specs.Levels.{lists_at}
use Rattle.book_office.specs.declared.keepers.StoreFault.{StoreFault}
use Rattle.book_office.specs.declared.keepers.StoreFault.TheVariants.{Memory, Store}
use Rattle.book_office.specs.declared.nodes.Lists.{Lists}
use Rattle.book_office_listings.specs.declared.messages.Denial.{Denial}
use Rattle.book_office_values.specs.declared.offices.Office.{Office}
use Rattle.book_wire_serving.proofs.Servings.{promise_still, still}
use Rattle.book_wire_serving.proofs.Unavailable.{no_edit}
use Rattle.book_wire_serving.specs.Logs.{IsLineBy}
use Rattle.book_wire_serving.specs.Serving.{IsTextOf, Owes, Serving, StandsStill}
use Rattle.book_office.proofs.Fallbacks.{still_falls, then_falls}

-- ---- no denial
no_denial : (denial : Denial) → None ≡ Some denial → ⊥
no_denial denial e = absurd cc

empty_is_no_denial : (c : Content) (denial : Denial) → denial_in c ≡ Some denial → c ≢ content.Empty
empty_is_no_denial c denial is empty = no_denial denial (sym (ap denial_in empty) ∙ is)

unavailable_is_no_denial : (reply : Reply) → IsDenial reply → reply ≡ refused Unavailable → ⊥
unavailable_is_no_denial reply denial is = no_denial denial.0 (sym (ap (λ (r : Reply). denial_in r.content) is) ∙ denial.1)

unavailable_tells : (refused Unavailable).content ≢ content.Empty
unavailable_tells empty = absurd cc

-- ---- the machine is not asked
pub not_asked : (old new : Standing) (name : Option (List ℕ)) (request : Request) → StandsStill old new → ServePromise old new name request (refused Unavailable)
not_asked old new name request s = record {
  was_honest = s.was_honest;
  falls = s.falls;
  served = λ h o stands. (o, s.kept h o stands, inr (refl, refl));
  left = λ h o stands x left. (inl (s.left h x left), λ served. absurd (served refl));
  counted = inl s.counted;
}

-- what an edit is to do was not told
pub unread : {A : Type 0} (old new : Standing) (name : Option (List ℕ)) (request : Request) (fault : StoreFault) (T : Office → A → Type 0)
    → Reads old new (Err fault) T → ServePromise old new name request (refused Unavailable)
unread {A} old new name request fault T r = record {
  was_honest = r.was_honest;
  falls = r.falls;
  served = λ h o stands. (o, r.kept h o stands, inr (refl, refl));
  left = λ h o stands x left. (inl (r.left h x left), λ served. absurd (served refl));
  counted = by_fault fault r.counted;
}
  where
    by_fault : (f : StoreFault) → new.failures ≡ failures_after_fault f old.failures
        → (new.failures ≡ old.failures) ⊎ ((refused Unavailable ≡ refused Unavailable) × (new.failures ≡ one_more old.failures))
    by_fault Memory same = inl same
    by_fault Store rose = inr (refl, rose)

-- a promise stands where the keeper was read before it
may_before : (P Q : Leftover → Type 0) (o : Office) (call : Call) (reply : Reply) (x : Leftover) → (P x → Q x) → MayLeave P o call reply x → MayLeave Q o call reply x
may_before P Q o call reply x f m = (elim m.0 [ inl before ↦ inl (f before) | inr made ↦ inr made ], m.1)

promise_read : {A : Type 0} (old mid new : Standing) (x : A) (T : Office → A → Type 0) (name : Option (List ℕ)) (request : Request) (reply : Reply)
    → Reads old mid (Ok x) T → ServePromise mid new name request reply → ServePromise old new name request reply
promise_read {A} old mid new x T name request reply r p = record {
  was_honest = λ h. r.was_honest (p.was_honest h);
  falls = then_falls r.falls p.falls;
  served = λ h o stands. p.served h o (r.kept (p.was_honest h) o stands);
  left = λ h o stands x left. may_before mid.left old.left o (name, request) reply x (r.left (p.was_honest h) x) (p.left h o (r.kept (p.was_honest h) o stands) x left);
  counted = elim p.counted [ inl same ↦ inl (same ∙ r.counted) | inr rose ↦ inr (rose.0, rose.1 ∙ ap one_more r.counted) ];
}

unavailable_text : (old new : Standing) (name : Option (List ℕ)) (request : Request) (text : List ℕ)
    → IsUnavailableText text → IsTextOf old new name request (refused Unavailable) text
unavailable_text old new name request text is = record {
  l = is.0;
  text_is = is.1;
  is_line = inr (refl, is.2);
  by_force = λ h o stands denial told. absurd (no_denial denial told);
  of_edit = λ h o stands empty. absurd (unavailable_tells empty);
}

spared : (spare : Option (List ℕ)) → IsSpared spare → IsUnavailableText (spare_text spare)
spared None is = absurd is
spared (Some text) is = is

pub owes_unasked : (old new : Serving) (spare : Option (List ℕ)) (name : Option (List ℕ)) (request : Request)
    → ServePromise old.standing new.standing name request (refused Unavailable) → IsWellFormed request
    → (new.log.failed ≡ false → old.log.failed ≡ false) → new.log.held ≡ old.log.held
    → (new.log.failed ≡ false → IsSpared spare) → Owes old new (owed_text None spare) name request (refused Unavailable)
owes_unasked old new spare name request served known was_sound held is = record {
  served = served;
  well_formed = known;
  was_sound = was_sound;
  held = held;
  text = λ sound bytes holds. unavailable_text old.standing new.standing name request (spare_text spare) (spared spare (is sound));
  other = λ sound bytes holds. spared spare (is sound);
}

-- ---- the reply is sent
-- with a content
told_by_force : TellingRepliesChangeNothing → (old mid new : Standing) (name : Option (List ℕ)) (request : Request) (reply : Reply) (text : List ℕ)
    → ServePromise old mid name request reply → StandsStill mid new → reply.content ≢ content.Empty
    → IsTextOf mid new name request reply text → IsTextOf old new name request reply text
told_by_force law old mid new name request reply text p s telling t = record {
  l = t.l;
  text_is = t.text_is;
  is_line = t.is_line;
  by_force = λ h o stands denial is.
      let a = p.served (s.was_honest h) o stands in
      let same : a.0 ≡ o = no_edit law o a.0 name request reply a.2 (empty_is_no_denial reply.content denial is) in
      let P : Office → Type 0 = λ x. IsLineBy name request reply no_effect (lists_at x denial.resource).levels t.l in
      subst P same (t.by_force h a.0 a.1 denial is);
  of_edit = λ h o stands empty. absurd (telling empty);
}

-- without one: what was foreseen is what it did
effect_told : (o after : Office) (name : Option (List ℕ)) (request : Request) (reply : Reply) → IsSound o → IsSound after → IsWellFormed request
    → reply.content ≡ content.Empty → Serves o name request reply after → foreseen o request ≡ effect_of after request
effect_told o after name request reply sound later formed empty (inl step) = foreseen_comes o after name request reply sound later formed step empty
effect_told o after name request reply sound later formed empty (inr un) =
    absurd (unavailable_tells (ap (λ (r : Reply). r.content) (sym un.0) ∙ empty))

abbrev AreForeseen : Option (List ℕ) → Request → Office → Option Drafts → Type 0
AreForeseen name request o drafts = AreDrafts name request (foreseen o request) drafts

module _ (old mid done new : Standing) (name : Option (List ℕ)) (request : Request) (drafts : Option Drafts) (r : Reads old mid (Ok drafts) (AreForeseen name request))
    (has : (effect : Effect) × AreDrafts name request effect drafts) (known : IsWellFormed request) where
  told_of_draft : (reply : Reply) (text : List ℕ) → ServePromise mid done name request reply → StandsStill done new → reply.content ≡ content.Empty
      → IsOfDrafts drafts reply text → IsTextOf old new name request reply text
  told_of_draft reply text p s empty of =
      let some = of name request has.0 has.1 in
      record {
        l = some.0;
        text_is = some.1;
        is_line = inl (has.0, [], (λ telling. absurd (telling empty)), some.2);
        by_force = λ h o stands denial is. absurd (empty_is_no_denial reply.content denial is empty);
        of_edit = λ h o stands _.
            let was = s.was_honest h in
            let read = p.was_honest was in
            let a = p.served was o (r.kept read o stands) in
            let told = of name request (foreseen o request) (r.value read o stands) in
            let same = effect_told o a.0 name request reply (old.sound o stands) (done.sound a.0 a.1) known empty a.2 in
            record {
              after = a.0;
              stands = s.kept h a.0 a.1;
              served = a.2;
              l = told.0;
              text_is = told.1;
              is_line = subst (λ (e : Effect). IsLineBy name request reply e [] told.0) same told.2;
            };
      }

  told_made : TellingRepliesChangeNothing → (reply : Reply) (text : List ℕ) → ServePromise mid done name request reply → StandsStill done new
      → IsMadeText done new name request drafts reply text → IsTextOf old new name request reply text
  told_made law reply text p s (inl spelled) =
      told_by_force law old done new name request reply text (promise_read old mid done drafts (AreForeseen name request) name request reply r p) s spelled.0 spelled.1
  told_made law reply text p s (inr of) = told_of_draft reply text p s of.0 of.1

owes_sent : TellingRepliesChangeNothing → (old new : Serving) (read mid : Standing) (made spare : Option (List ℕ)) (name : Option (List ℕ)) (request : Request) (drafts : Option Drafts) (reply : Reply)
    → Reads old.standing read (Ok drafts) (AreForeseen name request) → ((effect : Effect) × AreDrafts name request effect drafts)
    → ServePromise read mid name request reply → IsWellFormed request
    → (new.log.failed ≡ false → old.log.failed ≡ false) → new.log.held ≡ old.log.held → (new.log.failed ≡ false → IsSpared spare)
    → StandsStill mid new.standing → (new.log.failed ≡ false → (text : List ℕ) × (made ≡ Some text) × IsMadeText mid new.standing name request drafts reply text)
    → Owes old new (owed_text made spare) name request reply
owes_sent law old new read mid made spare name request drafts reply r has p known was_sound held is still told = record {
  served = promise_still old.standing mid new.standing name request reply (promise_read old.standing read mid drafts (AreForeseen name request) name request reply r p) still;
  well_formed = known;
  was_sound = was_sound;
  held = held;
  text = λ sound bytes holds.
      let t = told sound in
      let P : Option (List ℕ) → Type 0 = λ m. IsTextOf old.standing new.standing name request reply (owed_text m spare true) in
      subst P (sym t.1) (told_made old.standing read mid new.standing name request drafts r has known law reply t.0 p still t.2);
  other = λ sound bytes holds. spared spare (is sound);
}

-- ---- `unavailable` is sent in its place
withdrawn : TellingRepliesChangeNothing → (old mid new : Standing) (name : Option (List ℕ)) (request : Request) (reply sent : Reply) (made : Option (List ℕ))
    → ServePromise old mid name request reply → Withdraws mid new reply sent made → ServePromise old new name request (refused Unavailable)
withdrawn law old mid new name request reply sent made p w = record {
  was_honest = λ h. p.was_honest (w.was_honest h);
  falls = then_falls p.falls w.falls;
  served = λ h o stands.
      let s = p.served (w.was_honest h) o stands in
      (s.0, w.kept h s.0 s.1, inr (refl, no_edit law o s.0 name request reply s.2 w.telling));
  left = λ h o stands x left.
      let may = p.left (w.was_honest h) o stands x (w.left h x left) in
      (may.0, λ served. absurd (served refl));
  counted = elim w.failed [
    | inl same ↦ elim p.counted [ inl before ↦ inl (same ∙ before) | inr rose ↦ inr (refl, same ∙ rose.1) ]
    | inr failed ↦ elim p.counted [
      | inl before ↦ inr (refl, failed.1 ∙ ap one_more before)
      | inr rose ↦ absurd (unavailable_is_no_denial reply failed.0 rose.0)
    ]
  ];
}

pub owes_settled : TellingRepliesChangeNothing → (old new : Serving) (read mid : Standing) (made spare : Option (List ℕ)) (name : Option (List ℕ)) (request : Request)
    (drafts : Option Drafts) (reply sent : Reply)
    → Reads old.standing read (Ok drafts) (AreForeseen name request) → ((effect : Effect) × AreDrafts name request effect drafts)
    → ServePromise read mid name request reply → IsWellFormed request
    → (new.log.failed ≡ false → old.log.failed ≡ false) → new.log.held ≡ old.log.held → (new.log.failed ≡ false → IsSpared spare)
    → Settles mid new.standing name request drafts reply sent new.log.failed made
    → Owes old new (owed_text made spare) name request sent
owes_settled law old new read mid made spare name request drafts reply sent r has p known was_sound held is (inl s) =
    let P : Reply → Type 0 = λ r. Owes old new (owed_text made spare) name request r in
    subst P (sym s.same) (owes_sent law old new read mid made spare name request drafts reply r has p known was_sound held is s.still s.told)
owes_settled law old new read mid made spare name request drafts reply sent r has p known was_sound held is (inr w) =
    let P : Reply → Type 0 = λ r. Owes old new (owed_text made spare) name request r in
    let Q : Option (List ℕ) → Type 0 = λ m. Owes old new (owed_text m spare) name request (refused Unavailable) in
    subst P (sym w.unavailable)
    (subst Q (sym w.none) (record {
      served = withdrawn law old.standing mid new.standing name request reply sent made
          (promise_read old.standing read mid drafts (AreForeseen name request) name request reply r p) w;
      well_formed = known;
      was_sound = was_sound;
      held = held;
      text = λ sound bytes holds. unavailable_text old.standing new.standing name request (spare_text spare) (spared spare (is sound));
      other = λ sound bytes holds. spared spare (is sound);
    }))

-- ---- the cases of a reply
pub owes_at_once : (old new : Serving) (made spare : Option (List ℕ)) (name : Option (List ℕ)) (request : Request) (sent : Reply)
    → sent ≡ refused Unavailable → made ≡ None → ServePromise old.standing new.standing name request (refused Unavailable) → IsWellFormed request
    → (new.log.failed ≡ false → old.log.failed ≡ false) → new.log.held ≡ old.log.held
    → (new.log.failed ≡ false → IsSpared spare) → Owes old new (owed_text made spare) name request sent
owes_at_once old new made spare name request sent is_sent none s known was_sound held is =
    let P : Reply → Type 0 = λ r. Owes old new (owed_text made spare) name request r in
    let Q : Option (List ℕ) → Type 0 = λ m. Owes old new (owed_text m spare) name request (refused Unavailable) in
    subst P (sym is_sent) (subst Q (sym none) (owes_unasked old new spare name request s known was_sound held is))

-- a reply without a content
pub settles_empty : (old new : Standing) (name : Option (List ℕ)) (request : Request) (drafts : Option Drafts) (reply : Reply) (failed : Bool) (made : Option (List ℕ))
    → reply.content ≡ content.Empty → StandsStill old new
    → (failed ≡ false → (text : List ℕ) × (made ≡ Some text) × IsOfDrafts drafts reply text)
    → Settles old new name request drafts reply reply failed made
settles_empty old new name request drafts reply failed made empty s told = inl (record {
  same = refl;
  still = s;
  told = λ sound.
      let t = told sound in
      (t.0, t.1, inr (empty, t.2));
})

-- a reply whose line was made
pub settles_spelled : (old new : Standing) (name : Option (List ℕ)) (request : Request) (drafts : Option Drafts) (reply : Reply) (failed : Bool) (text : List ℕ)
    → reply.content ≢ content.Empty → Spells old new name request reply (Ok text) → Settles old new name request drafts reply reply failed (Some text)
settles_spelled old new name request drafts reply failed text telling s = inl (record {
  same = refl;
  still = record { was_honest = s.was_honest; falls = s.falls; kept = s.kept; left = s.left; counted = s.counted };
  told = λ sound. (text, refl, inl (telling, s.told));
})

-- a reply whose line was not made
pub settles_withdrawn : (old new : Standing) (name : Option (List ℕ)) (request : Request) (drafts : Option Drafts) (reply sent : Reply) (failed : Bool) (made : Option (List ℕ)) (fault : StoreFault)
    → Spells old new name request reply (Err fault) → sent ≡ refused Unavailable → reply.content ≢ content.Empty → made ≡ None
    → Settles old new name request drafts reply sent failed made
settles_withdrawn old new name request drafts reply sent failed made fault s is_sent telling none = inr (record {
  unavailable = is_sent;
  telling = telling;
  was_honest = s.was_honest;
  falls = s.falls;
  kept = s.kept;
  left = s.left;
  failed = s.failed;
  none = none;
})

-- ---- the line of a reply with a content
-- by the lists that the keeper told
pub spells_read : (old new : Standing) (name : Option (List ℕ)) (request : Request) (reply : Reply) (denial : Denial) (lists : Lists) (text : List ℕ)
    → denial_in reply.content ≡ Some denial → Reads old new (Ok lists) (λ o told. told ≡ lists_at o denial.resource)
    → IsTextBy name request reply no_effect lists.levels text → Spells old new name request reply (Ok text)
spells_read old new name request reply denial lists text denied r t = record {
  was_honest = r.was_honest;
  falls = r.falls;
  kept = r.kept;
  left = r.left;
  told = record {
    l = t.0;
    text_is = t.1;
    is_line = inl (no_effect, lists.levels, (λ _. refl), t.2);
    by_force = λ h o stands other is.
        let same : denial ≡ other = cc in
        let P : Lists → Type 0 = λ ls. IsLineBy name request reply no_effect ls.levels t.0 in
        let Q : Denial → Type 0 = λ d. IsLineBy name request reply no_effect (lists_at o d.resource).levels t.0 in
        subst Q same (subst P (r.value h o stands) t.2);
    of_edit = λ h o stands empty. absurd (empty_is_no_denial reply.content denial denied empty);
  };
  counted = r.counted;
  failed = tt;
}

-- memory was refused after the lists were told
pub spells_refused : (old new : Standing) (name : Option (List ℕ)) (request : Request) (reply : Reply) (denial : Denial) (lists : Lists)
    → Reads old new (Ok lists) (λ o told. told ≡ lists_at o denial.resource) → Spells old new name request reply (Err Memory)
spells_refused old new name request reply denial lists r = record {
  was_honest = r.was_honest;
  falls = r.falls;
  kept = r.kept;
  left = r.left;
  told = tt;
  counted = tt;
  failed = inl r.counted;
}

-- the lists were not told
pub spells_unread : (old new : Standing) (name : Option (List ℕ)) (request : Request) (reply : Reply) (denial : Denial) (fault : StoreFault)
    → denial_in reply.content ≡ Some denial → Reads {A = Lists} old new (Err fault) (λ o told. told ≡ lists_at o denial.resource)
    → Spells old new name request reply (Err fault)
spells_unread old new name request reply denial Memory denied r = record {
  was_honest = r.was_honest;
  falls = r.falls;
  kept = r.kept;
  left = r.left;
  told = tt;
  counted = tt;
  failed = inl r.counted;
}
spells_unread old new name request reply denial Store denied r = record {
  was_honest = r.was_honest;
  falls = r.falls;
  kept = r.kept;
  left = r.left;
  told = tt;
  counted = tt;
  failed = inr ((denial, denied), r.counted);
}

-- no lists are asked for
told_plain : (old new : Standing) (name : Option (List ℕ)) (request : Request) (reply : Reply) (text : List ℕ)
    → denial_in reply.content ≡ None → reply.content ≢ content.Empty → IsTextBy name request reply no_effect [] text → IsTextOf old new name request reply text
told_plain old new name request reply text none telling t = record {
  l = t.0;
  text_is = t.1;
  is_line = inl (no_effect, [], (λ _. refl), t.2);
  by_force = λ h o stands denial is. absurd (no_denial denial (sym none ∙ is));
  of_edit = λ h o stands empty. absurd (telling empty);
}

pub spells_plain : (s : Standing) (name : Option (List ℕ)) (request : Request) (reply : Reply) (text : List ℕ)
    → denial_in reply.content ≡ None → reply.content ≢ content.Empty → IsTextBy name request reply no_effect [] text → Spells s s name request reply (Ok text)
spells_plain s name request reply text none telling t = record {
  was_honest = λ h. h;
  falls = still_falls;
  kept = λ h o stands. stands;
  left = λ h x left. left;
  told = told_plain s s name request reply text none telling t;
  counted = refl;
  failed = tt;
}

pub spells_nothing : (s : Standing) (name : Option (List ℕ)) (request : Request) (reply : Reply) → Spells s s name request reply (Err Memory)
spells_nothing s name request reply = record {
  was_honest = λ h. h;
  falls = still_falls;
  kept = λ h o stands. stands;
  left = λ h x left. left;
  told = tt;
  counted = tt;
  failed = inl refl;
}
