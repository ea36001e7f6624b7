use Rattle.std.proofs.Common.{List, [], ◌∷◌, ◌++◌}
use Rattle.std.proofs.lemmas.List.{append_assoc}
use Rattle.book_office_cache.proofs.Common.{◌≡◌, ap, ◌∙◌, Ok, level_at, Level, Office, Standing}
use Rattle.book_office_cache.proofs.Readings.{reads_then, reads_weaker}
use Rattle.book_office_cache.specs.Remembering.{remembering}
use Rattle.book_office_values.specs.declared.paths.Path.TheVariants as paths
use Rattle.book_office_cache.proofs.cached.Cached.push_levels.Goals as goal

pub returns : goal.returns
returns g c =
    let keeps = g.K.Keeper.standing in
    let s0 : Standing = remembering (keeps c.args.self.now.keeper) (g.R.Memories.held c.args.self.now.remembered) in
    let s1 : Standing = remembering (keeps c.book.new.self.keeper) (g.R.Memories.held c.book.new.self.remembered) in
    let s2 : Standing = remembering (keeps c.home.new.self.keeper) (g.R.Memories.held c.home.new.self.remembered) in
    let s3 : Standing = remembering (keeps c.root.new.self.keeper) (g.R.Memories.held c.root.new.self.remembered) in
    let book = c.in_ok-book.book in
    let home = c.in_ok-home.home in
    let root = c.in_ok-root.root in
    let old = c.args.levels.now.items in
    let IsBook = λ (o : Office) (level : Level). level ≡ level_at o (paths.Book c.args.name.now) in
    let IsHome = λ (o : Office) (level : Level). level ≡ level_at o paths.Books in
    let IsRoot = λ (o : Office) (level : Level). level ≡ level_at o paths.Root in
    let AreTop = λ (o : Office) (level : Level). IsHome o home × IsRoot o level in
    let AreAll = λ (o : Office) (level : Level). IsBook o book × AreTop o level in
    let top = reads_then s1 s2 s3 home (Ok root) IsHome IsRoot AreTop
    c.in_ok-home.ensures c.in_ok-root.ensures (λ o is_home level is_root. (is_home, is_root)) in
    let all = reads_then s0 s1 s3 book (Ok root) IsBook AreTop AreAll
    c.in_ok-book.ensures top (λ o is_book level is_top. (is_book, is_top)) in
    let pushed : c.push_level-3.new.levels.items ≡ old ++ book ∷ home ∷ root ∷ [] =
    c.in_ok-push_level-3.ensures
    ∙ ap (λ (xs : List Level). xs ++ root ∷ []) (c.in_ok-push_level-2.ensures ∙ ap (λ (xs : List Level). xs ++ home ∷ []) c.in_ok-push_level.ensures)
    ∙ append_assoc (old ++ book ∷ []) (home ∷ []) (root ∷ []) ∙ append_assoc old (book ∷ []) (home ∷ root ∷ []) in
    let Told = λ (o : Office) (_ : Unit {0}). c.push_level-3.new.levels.items ≡ old ++ level_at o (paths.Book c.args.name.now) ∷ level_at o paths.Books ∷ level_at o paths.Root ∷ [] in
    reads_weaker s0 s3 root tt AreAll Told all (λ o is. pushed ∙ (λ i. old ++ is.0 i ∷ is.1.0 i ∷ is.1.1 i ∷ []))
