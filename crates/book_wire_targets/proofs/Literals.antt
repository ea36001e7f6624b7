-- A router of literal routes answers each route at its own text, and nothing else.
use Rattle.std.proofs.Common.{◌≡◌, ℕ, ◌<◌, ◌-◌, suc, zero, Bool, true, false, cond, List, [], ◌∷◌, length, Option, Some, None, refl, ap, ◌∙◌, eqb, ltb, ◌&&◌, arith}
use Rattle.std.proofs.lemmas.Bool.Decides.{nat_tests}
use Rattle.std.proofs.lemmas.Bool.{and_parts}
use borrow.Author.Tests.{ltb-true}
use Rattle.std.specs.Str.{bytes_eq}
use Rattle.std.specs.List.{AllByRecursion}
use Rattle.matchit.specs.Rows.{RowsOf}
use Rattle.matchit.specs.Seek.{own, step, or_else, param_step, seek, first, has_slash}

abbrev pub all_bytes : List ℕ → Bool
all_bytes [] = true
all_bytes (x ∷ xs) = ltb x 256 && all_bytes xs

bytes_from_test : (t : List ℕ) → all_bytes t ≡ true → AllByRecursion (λ (x : ℕ). x < 256) t
bytes_from_test [] e = tt
bytes_from_test (x ∷ xs) e =
    let both = and_parts (ltb x 256) (all_bytes xs) e in
    (ltb-true x 256 both.0, bytes_from_test xs both.1)

param_none : (K : Type 0) (path : List ℕ) → (param_step {K = K} [] path).1 ≡ []
unfolding param_step
param_none K path =
    elim (has_slash path) as (λ v. (let pair : ℕ × RowsOf K = cond v (0, []) (length path, []) in pair.1) ≡ []) [ true ↦ refl | false ↦ refl ]

seek_none : (K : Type 0) (n : ℕ) (path : List ℕ) → seek {K = K} n [] path ≡ None
unfolding seek
seek_none K n [] = refl
seek_none K (suc n) (b ∷ path) = seek_none K n path
seek_none K zero (b ∷ path) =
    let skip = (param_step {K = K} [] (b ∷ path)).0 - 1 in
    ap (λ (z : Option K). or_else z (or_else (seek skip (param_step [] (b ∷ path)).1 path) None)) (seek_none K 0 path)
    ∙ ap (λ (z : Option K). or_else z None) (ap (λ (r : RowsOf K). seek skip r path) (param_none K (b ∷ path)) ∙ seek_none K skip path)

module _ {K : Type 0} where
  -- the value at the text
  abbrev pub lookup : List ℕ → RowsOf K → Option K
  lookup path [] = None
  lookup path ((t, key) ∷ rest) = cond (bytes_eq t path) (Some key) (lookup path rest)

  -- each token is a byte
  abbrev pub IsLiteral : RowsOf K → Type 0
  IsLiteral rows = AllByRecursion (λ (row : List ℕ × K). AllByRecursion (λ (x : ℕ). x < 256) row.0) rows

  own_is : (rows : RowsOf K) → own rows ≡ lookup [] rows
  own_is [] = refl
  own_is (([], key) ∷ rest) = refl
  own_is ((x ∷ t, key) ∷ rest) = own_is rest

  step_is : (b : ℕ) (path : List ℕ) (rows : RowsOf K) → lookup path (step b rows) ≡ lookup (b ∷ path) rows
  step_is b path [] = refl
  step_is b path (([], key) ∷ rest) = step_is b path rest
  step_is b path ((x ∷ t, key) ∷ rest) =
      let e = step_is b path rest in
      elim (eqb x b) as (λ v. lookup path (cond v ((t, key) ∷ step b rest) (step b rest)) ≡ cond (v && bytes_eq t path) (Some key) (lookup (b ∷ path) rest)) [
        | true ↦ ap (λ (z : Option K). cond (bytes_eq t path) (Some key) z) e
        | false ↦ e
      ]

  no_step : (token : ℕ) (rows : RowsOf K) → 255 < token → IsLiteral rows → step token rows ≡ []
  no_step token [] h lit = refl
  no_step token (([], key) ∷ rest) h lit = no_step token rest h lit.1
  no_step token ((x ∷ t, key) ∷ rest) h lit =
      let apart : eqb x token ≡ false = grind (arith, nat_tests) in
      rw apart (no_step token rest h lit.1)

  literal_step : (b : ℕ) (rows : RowsOf K) → IsLiteral rows → IsLiteral (step b rows)
  literal_step b [] lit = tt
  literal_step b (([], key) ∷ rest) lit = literal_step b rest lit.1
  literal_step b ((x ∷ t, key) ∷ rest) lit =
      let tail = literal_step b rest lit.1 in
      elim (eqb x b) as (λ v. IsLiteral (cond v ((t, key) ∷ step b rest) (step b rest))) [ true ↦ (lit.0.1, tail) | false ↦ tail ]

  or_else_none : (o : Option K) → or_else o None ≡ o
  or_else_none None = refl
  or_else_none (Some k) = refl

  pub literal_first : (rows : RowsOf K) (path : List ℕ) → IsLiteral rows → first rows path ≡ lookup path rows
  unfolding seek
  literal_first rows [] lit = own_is rows
  literal_first rows (b ∷ path) lit =
      let skip = (param_step {K = K} [] (b ∷ path)).0 - 1 in
      let rest : or_else (seek ((param_step (step 256 rows) (b ∷ path)).0 - 1) (param_step (step 256 rows) (b ∷ path)).1 path) (own (step 257 rows)) ≡ None =
      ap (λ (r : RowsOf K). or_else (seek ((param_step r (b ∷ path)).0 - 1) (param_step r (b ∷ path)).1 path) (own (step 257 rows))) (no_step 256 rows (omega arith) lit)
      ∙ ap (λ (r : RowsOf K). or_else (seek skip (param_step [] (b ∷ path)).1 path) (own r)) (no_step 257 rows (omega arith) lit)
      ∙ ap (λ (z : Option K). or_else z None) (ap (λ (r : RowsOf K). seek skip r path) (param_none K (b ∷ path)) ∙ seek_none K skip path) in
      ap (λ (z : Option K). or_else (seek 0 (step b rows) path) z) rest
      ∙ or_else_none (seek 0 (step b rows) path)
      ∙ literal_first (step b rows) path (literal_step b rows lit)
      ∙ step_is b path rows

  abbrev pub literal_test : RowsOf K → Bool
  literal_test [] = true
  literal_test ((t, key) ∷ rest) = all_bytes t && literal_test rest

  pub literal_from_test : (rows : RowsOf K) → literal_test rows ≡ true → IsLiteral rows
  literal_from_test [] e = tt
  literal_from_test ((t, key) ∷ rest) e =
      let both = and_parts (all_bytes t) (literal_test rest) e in
      (bytes_from_test t both.0, literal_from_test rest both.1)
