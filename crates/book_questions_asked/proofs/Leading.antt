-- The memberships on chains to a caller tell the principals to which it belongs.
use Rattle.book_questions_asked.proofs.Common.{◌≡◌, ◌∷◌, ◌∙◌, [], ℕ, Bool, true, false, cond, List, ap, filter, inl, inr, refl, subst, sym, false≢true, Caller, CircleOf, Membership, belongs, leading, set_of}
use Rattle.std.specs.FinSet.{contains-from_list}
use Rattle.std.specs.Ordering.{eq_by_cmp}
use Rattle.book_lists.proofs.Closures.{any_mem, mem_any}
use Rattle.book_lists.proofs.Elements.{Mem, tied}
use Rattle.book_lists.proofs.Pairing.{memberships_exact, memberships_total}
use Rattle.book_lists.specs.Callers.{IsCircle}
use Rattle.book_lists.specs.Memberships.{Belongs, Descends, IsDirect, membership_cmp}
use Rattle.book_lists.specs.declared.circles.Caller.TheVariants.{Known, Nobody}

module _ {A : Type 0} (test : A → Bool) where
  pub mem_filter : (x : A) (xs : List A) → Mem x (filter test xs) → Mem x xs
  mem_filter x [] m = absurd m
  mem_filter x (y ∷ ys) m =
      elim (test y) as (λ b. Mem x (cond b (y ∷ filter test ys) (filter test ys)) → Mem x (y ∷ ys)) [
        | true ↦ λ h. elim h [ inl e ↦ inl e | inr r ↦ inr (mem_filter x ys r) ]
        | false ↦ λ h. inr (mem_filter x ys h)
      ] m

  filter_mem : (x : A) (xs : List A) → test x ≡ true → Mem x xs → Mem x (filter test xs)
  filter_mem x [] t m = absurd m
  filter_mem x (y ∷ ys) t m =
      elim (test y) as (λ b. test y ≡ b → Mem x (cond b (y ∷ filter test ys) (filter test ys))) [
        | true ↦ λ _. elim m [ inl e ↦ inl e | inr r ↦ inr (filter_mem x ys t r) ]
        | false ↦ λ n. elim m [ inl e ↦ absurd (false≢true (sym n ∙ ap test (sym e) ∙ t)) | inr r ↦ filter_mem x ys t r ]
      ] refl

module _ (list : List Membership) (circle : CircleOf) where
  direct_out : (group member : List ℕ) → IsDirect (set_of (leading circle list)) group member → IsDirect (set_of list) group member
  direct_out group member h =
      let q : Membership = record { group = group; member = member } in
      let f = any_mem (eq_by_cmp membership_cmp q) (leading circle list) (sym (contains-from_list memberships_total (leading circle list) q) ∙ h) in
      contains-from_list memberships_total list q
      ∙ mem_any (eq_by_cmp membership_cmp q) f.0 list (mem_filter (λ (m : Membership). belongs circle m.member) f.0 list f.1) f.2

  direct_in : (group member : List ℕ) → belongs circle member ≡ true → IsDirect (set_of list) group member → IsDirect (set_of (leading circle list)) group member
  direct_in group member here h =
      let q : Membership = record { group = group; member = member } in
      let f = any_mem (eq_by_cmp membership_cmp q) list (sym (contains-from_list memberships_total list q) ∙ h) in
      let same : q ≡ f.0 = memberships_exact q f.0 (tied _ f.2) in
      contains-from_list memberships_total (leading circle list) q
      ∙ mem_any (eq_by_cmp membership_cmp q) f.0 (leading circle list)
      (filter_mem (λ (m : Membership). belongs circle m.member) f.0 list (subst (λ (m : Membership). belongs circle m.member ≡ true) same here) f.1) f.2

  descends_out : (group : List ℕ) (members : List (List ℕ)) (p : List ℕ) → Descends (set_of (leading circle list)) group members p → Descends (set_of list) group members p
  descends_out group [] p e = e
  descends_out group (m ∷ ms) p d = (direct_out group m d.0, descends_out m ms p d.1)

  module _ (p : List ℕ) (belong : (q : List ℕ) → Belongs (set_of list) p q → belongs circle q ≡ true) where
    above : (m : List ℕ) (ms : List (List ℕ)) → Descends (set_of list) m ms p → Belongs (set_of list) p m
    above m [] e = inl (sym e)
    above m (n ∷ ns) d = inr (n, ns, d)

    descends_in : (group : List ℕ) (members : List (List ℕ)) → Descends (set_of list) group members p → Descends (set_of (leading circle list)) group members p
    descends_in group [] e = e
    descends_in group (m ∷ ms) d = (direct_in group m (belong m (above m ms d.1)) d.0, descends_in m ms d.1)

  pub leading_circle : (caller : Caller) → IsCircle (set_of list) caller circle → IsCircle (set_of (leading circle list)) caller circle
  leading_circle Nobody is = record { known = is.known; principals = is.principals }
  leading_circle (Known p) is =
      let belong : (q : List ℕ) → Belongs (set_of list) p q → belongs circle q ≡ true = λ q. (is.principals q).1 in
      record {
        known = is.known;
        principals = λ q. (
          λ h. elim ((is.principals q).0 h) [ inl e ↦ inl e | inr c ↦ inr (c.0, c.1, descends_in p belong q (c.0 ∷ c.1) c.2) ],
          λ b. (is.principals q).1 (elim b [ inl e ↦ inl e | inr c ↦ inr (c.0, c.1, descends_out q (c.0 ∷ c.1) p c.2) ]),
        );
      }
