-- What a call makes of the store in the slot, and of what is lent of it.
use Rattle.std.{proofs.Common.{◌≡◌, List, [], ◌++◌, append-nil, ℕ, Option, None, Some, true, refl, sym, ◌∙◌, ap, subst}, specs.Prelude.{Result, Ok, Err, IfOk, is_some}}
use Rattle.pm_log.specs.Half.{Half}
use Rattle.pm_segment.specs.{pm_query.declared.{book.BookEntry.BookEntry, store.StoreNo.StoreNo}, pm_store_apart.declared.{apart.Apart.Apart, commits.Commits.TheVariants.Staged, live.Live.Live, pass.Pass.Pass}, declared.segment.Segment.Segment, Apart.Grows, ApartLaws.{admits_alone, admits_over, grown_under, rests_kept}, PartLaws.{joined, parted}, Lending.{IsHome, Lends}, Moment.{KeepsLog, alone, apart_of, disk_of, moment, over}, Moves.Moves, Passes.{Admits, IsStaged}, Pieces.{IsMadeBeside, IsMaking, LendsBare}, Rests.IsAtRest}
use Rattle.pm_store_shared.{specs.{declared.{place.Place.Place, views.{Lent.Lent, View.{View, TheVariants.{Founding, Master, Spent, Vacant, Worker}}}}, Behind.BehindAt, Laid.{HasDisk, IsLaid}, Log.AllOwn, Rule.taken, Stands.{Knows, MakesOver, Stands, StandsOver}, Told.{IsFor, IsMine, Relends, Seated, StandsWith, Tells}}, proofs.{Makings.made_grown, Stores.{Over, behind_moves, over_some}}}

-- The store stands after these entries too, its generation is the same, and what was taken is so still.
pub record PlaceMoves {D B : Type 0} {g h : _} (had has : Option (Lent D)) (es : List BookEntry) (x x' : Place D B g h) : Type 0 where
  pub stands : (first : D) (log : List BookEntry) → Relends had has (Stands first log x) (Stands first (log ++ es) x')
  pub generation : x'.apart.generation ≡ x.apart.generation
  pub staged : (front : Option ℕ) → IsStaged front x.apart.live → IsStaged front x'.apart.live

module _ {D B : Type 0} {g h : _} where
  -- ---- a call that needs no disk

  grown_stands : (first : D) (log es : List BookEntry) (a a' : Apart D B g h) (disk : Option D) (lent : Option (Lent D)) → AllOwn es → Grows es a a' → StandsOver first log a disk lent → StandsOver first (log ++ es) a' disk lent
  grown_stands first log es a a' (Some disk) None own grows is = (behind_moves first log es (over disk a) (over disk a') own (grows.moves Staged disk) is.0, grows.rests disk is.1, grows.lent ∙ is.2)
  grown_stands first log es a a' None (Some lent) own grows is =
      let moves = grows.moves Staged lent.disk in
      (behind_moves first log es (over lent.disk a) (over lent.disk a') own moves is.0, grows.rests lent.disk is.1, grown_under lent.batch es a a' grows is.2, moves.generation ∙ is.3)
  grown_stands first log es a a' (Some disk) (Some lent) own grows is = absurd is
  grown_stands first log es a a' None None own grows is = absurd is

  grown_makes : (es : List BookEntry) (a a' : Apart D B g h) (disk : Option D) (lent : Option (Lent D)) (making : Option Half) → Grows es a a' → MakesOver a disk lent making → MakesOver a' disk lent making
  grown_makes es a a' (Some disk) lent making grows is = made_grown a.live a'.live making (g.seen disk) grows.log is
  grown_makes es a a' None (Some lent) making grows is = made_grown a.live a'.live making (g.seen lent.disk) grows.log is
  grown_makes es a a' None None making grows is = tt

  abbrev pub with_apart : Apart D B g h → Place D B g h → Place D B g h
  with_apart apart x = record { apart = apart; disk = x.disk; making = x.making }

  -- any disk shows that
  pub grown_generation : (any : D) (es : List BookEntry) (a a' : Apart D B g h) → Grows es a a' → a'.generation ≡ a.generation
  grown_generation any es a a' grows = (grows.moves Staged any).generation

  pub grown : (any : D) (es : List BookEntry) (x : Place D B g h) (a' : Apart D B g h) → AllOwn es → Grows es x.apart a' → PlaceMoves None None es x (with_apart a' x)
  grown any es x a' own grows = record {
    stands = λ first log lent is. (grown_stands first log es x.apart a' x.disk lent own grows is.0, grown_makes es x.apart a' x.disk lent x.making grows is.1);
    generation = grown_generation any es x.apart a' grows;
    staged = (grows.moves Staged any).staged;
  }

  -- ---- a call that has the disk

  -- where nothing is made nothing is asked of it
  pub makes_none : (a : Apart D B g h) (disk : Option D) (lent : Option (Lent D)) (making : Option Half) → making ≡ None → MakesOver a disk lent making
  makes_none a disk lent making none = subst (λ (m : Option Half). MakesOver a disk lent m) (sym none) (each disk lent)
    where
      each : (disk : Option D) (lent : Option (Lent D)) → MakesOver a disk lent None
      each (Some disk) lent = tt
      each None (Some lent) = tt
      each None None = tt

  pub laid_stands : (first : D) (log : List BookEntry) (store : Segment D B g h) (x : Place D B g h) → IsLaid store x → x.making ≡ None → BehindAt g first log (moment store) → Stands first log x None
  laid_stands first log store x laid bare is = (
    subst (λ (z : Apart D B g h × Option D). StandsOver first log z.0 z.1 None) (λ i. (sym laid.apart i, sym laid.disk i))
        (parted (BehindAt g first log) store laid.staged is, laid.rests, laid.home),
    makes_none x.apart x.disk None x.making bare,
  )

  whole_behind : (first : D) (log : List BookEntry) (apart : Apart D B g h) (disk : D) (lent : Option (Lent D)) → StandsOver first log apart (Some disk) lent → (lent ≡ None) × BehindAt g first log (over disk apart)
  whole_behind first log apart disk None is = (refl, is.0)
  whole_behind first log apart disk (Some l) is = absurd is

  pub laid_behind : (first : D) (log : List BookEntry) (store : Segment D B g h) (x : Place D B g h) (lent : Option (Lent D)) → IsLaid store x → Stands first log x lent → (lent ≡ None) × BehindAt g first log (moment store)
  laid_behind first log store x lent laid is =
      let there = whole_behind first log (apart_of store) (disk_of store) lent (subst (λ (z : Apart D B g h × Option D). StandsOver first log z.0 z.1 lent) (λ i. (laid.apart i, laid.disk i)) is.0) in
      (there.0, joined (BehindAt g first log) store laid.staged there.1)

  -- what such a call makes of the store it makes of the place
  pub laid_on : (first : D) (log es : List BookEntry) (s s' : Segment D B g h) (x x' : Place D B g h) → IsLaid s x → IsLaid s' x' → x'.making ≡ None → (BehindAt g first log (moment s) → BehindAt g first (log ++ es) (moment s'))
      → (lent : Option (Lent D)) → Stands first log x lent → Stands first (log ++ es) x' lent
  laid_on first log es s s' x x' was now bare on lent is =
      let there = laid_behind first log s x lent was is in
      subst (λ o. Stands first (log ++ es) x' o) (sym there.0) (laid_stands first (log ++ es) s' x' now bare (on there.1))

  pub whole : (es : List BookEntry) (s s' : Segment D B g h) (x x' : Place D B g h) → AllOwn es → IsLaid s x → IsLaid s' x' → x'.making ≡ None → Moves es (moment s) (moment s') → PlaceMoves None None es x x'
  whole es s s' x x' own was now bare moves = record {
    stands = λ first log lent is. laid_on first log es s s' x x' was now bare (behind_moves first log es (moment s) (moment s') own moves) lent is;
    generation = ap (λ (a : Apart D B g h). a.generation) now.apart ∙ moves.generation ∙ sym (ap (λ (a : Apart D B g h). a.generation) was.apart);
    staged = λ front is. subst (λ (a : Apart D B g h). IsStaged front a.live) (sym now.apart) (moves.staged front (subst (λ (a : Apart D B g h). IsStaged front a.live) was.apart is));
  }

  -- ---- the disk is lent, and comes back

  abbrev pub with_disk : Apart D B g h → D → Option Half → Place D B g h
  with_disk apart disk making = record { apart = apart; disk = Some disk; making = making }

  lent_stands : (first : D) (log : List BookEntry) (a a' : Apart D B g h) (lent : Lent D) (out : Option (Lent D)) → Lends lent.batch a a' → lent.generation ≡ a.generation → StandsOver first log a (Some lent.disk) out
      → (out ≡ None) × StandsOver first (log ++ []) a' None (Some lent)
  lent_stands first log a a' lent None lends in_ is =
      let moves = lends.moves Staged lent.disk in
      (refl, (behind_moves first log [] (over lent.disk a) (over lent.disk a') tt moves is.0, lends.rests lent.disk is.1, lends.under, moves.generation ∙ sym in_))
  lent_stands first log a a' lent (Some out) lends in_ is = absurd is

  abbrev pub without_disk : Apart D B g h → Option Half → Place D B g h
  without_disk apart making = record { apart = apart; disk = None; making = making }

  lent_makes : (a a' : Apart D B g h) (lent : Lent D) (out : Option (Lent D)) (making : Option Half) → KeepsLog a a' → MakesOver a (Some lent.disk) out making → MakesOver a' None (Some lent) making
  lent_makes a a' lent out making keeps is = subst (λ (l : Option Live). IsMadeBeside l making (g.seen lent.disk)) (sym keeps.0) is

  pub lends : (x : Place D B g h) (a' : Apart D B g h) (lent : Lent D) → x.disk ≡ Some lent.disk → Lends lent.batch x.apart a' → lent.generation ≡ x.apart.generation → PlaceMoves None (Some lent) [] x (without_disk a' x.making)
  lends x a' lent has does in_ = record {
    stands = λ first log out is.
        let there = lent_stands first log x.apart a' lent out does in_ (subst (λ disk. StandsOver first log x.apart disk out) has is.0) in
        (there.0, (there.1, lent_makes x.apart a' lent out x.making does.keeps (subst (λ disk. MakesOver x.apart disk out x.making) has is.1)));
    generation = (does.moves Staged lent.disk).generation;
    staged = (does.moves Staged lent.disk).staged;
  }

  -- the same for a piece of a checkpoint: what is made goes out with the disk
  bare_stands : (first : D) (log : List BookEntry) (a a' : Apart D B g h) (lent : Lent D) (out : Option (Lent D)) → LendsBare lent.batch a a' → lent.generation ≡ a.generation → StandsOver first log a (Some lent.disk) out
      → (out ≡ None) × StandsOver first (log ++ []) a' None (Some lent)
  bare_stands first log a a' lent None lends in_ is =
      let moves = lends.moves Staged lent.disk in
      (refl, (behind_moves first log [] (over lent.disk a) (over lent.disk a') tt moves is.0, rests_kept lent.disk a a' lends.keeps is.1, lends.under, moves.generation ∙ sym in_))
  bare_stands first log a a' lent (Some out) lends in_ is = absurd is

  pub lends_bare : (x : Place D B g h) (a' : Apart D B g h) (lent : Lent D) → x.disk ≡ Some lent.disk → LendsBare lent.batch x.apart a' → lent.generation ≡ x.apart.generation → PlaceMoves None (Some lent) [] x (without_disk a' None)
  lends_bare x a' lent has does in_ = record {
    stands = λ first log out is.
        let there = bare_stands first log x.apart a' lent out does in_ (subst (λ disk. StandsOver first log x.apart disk out) has is.0) in
        (there.0, (there.1, tt));
    generation = (does.moves Staged lent.disk).generation;
    staged = (does.moves Staged lent.disk).staged;
  }

  -- a call has the disk, and has left this one
  held_stands : (first : D) (log es : List BookEntry) (a a' : Apart D B g h) (disk disk' : D) (lent : Option (Lent D)) → AllOwn es → Moves es (over disk a) (over disk' a') → IsAtRest disk' a' → IsHome a' → StandsOver first log a (Some disk) lent
      → StandsOver first (log ++ es) a' (Some disk') lent
  held_stands first log es a a' disk disk' None own moves rests home is = (behind_moves first log es (over disk a) (over disk' a') own moves is.0, rests, home)
  held_stands first log es a a' disk disk' (Some lent) own moves rests home is = absurd is

  pub holding : (es : List BookEntry) (x : Place D B g h) (a' : Apart D B g h) (disk disk' : D) (making : Option Half) → x.disk ≡ Some disk → AllOwn es → Moves es (over disk x.apart) (over disk' a') → IsAtRest disk' a' → IsHome a'
      → IsMaking disk' a' making → PlaceMoves None None es x (with_disk a' disk' making)
  holding es x a' disk disk' making has own moves rests home makes = record {
    stands = λ first log lent is. (held_stands first log es x.apart a' disk disk' lent own moves rests home (subst (λ d. StandsOver first log x.apart d lent) has is.0), makes);
    generation = moves.generation;
    staged = moves.staged;
  }

  -- what was made is given up
  abbrev pub unmade : Place D B g h → Place D B g h
  unmade x = record { apart = x.apart; disk = x.disk; making = None }

  pub gives_up : (x : Place D B g h) → PlaceMoves None None [] x (unmade x)
  gives_up x = record {
    stands = λ first log lent is. (subst (λ l. StandsOver first l x.apart x.disk lent) (sym (append-nil log)) is.0, makes_none x.apart x.disk lent None refl);
    generation = refl;
    staged = λ front is. is;
  }

  -- a flush that needs no disk was answered
  pub answered : (any : D) (es : List BookEntry) (x : Place D B g h) (a' : Apart D B g h) (disk : D) → x.disk ≡ Some disk → AllOwn es → Grows es x.apart a' → PlaceMoves None None es x (with_disk a' disk x.making)
  answered any es x a' disk has own grows = subst (λ o. PlaceMoves None None es x record { apart = a'; disk = o; making = x.making }) has (grown any es x a' own grows)

  -- what the marking makes of a store whose disk comes back as this one
  pub record Marked (lent : Lent D) (now : D) (es : List BookEntry) (a a' : Apart D B g h) (making : Option Half) : Type 0 where
    pub moves : Moves es (over lent.disk a) (over now a')
    pub rests : IsAtRest now a'
    pub made : IsMaking now a' making
    pub home : IsHome a'

  marked_stands : (first : D) (log es : List BookEntry) (a a' : Apart D B g h) (making : Option Half) (lent : Lent D) (disk : Option D) (now : D) → AllOwn es → Marked lent now es a a' making → StandsOver first log a disk (Some lent)
      → StandsOver first (log ++ es) a' (Some now) None
  marked_stands first log es a a' making lent None now own marked is = (behind_moves first log es (over lent.disk a) (over now a') own marked.moves is.0, marked.rests, marked.home)
  marked_stands first log es a a' making lent (Some disk) now own marked is = absurd is

  pub marks : (es : List BookEntry) (x : Place D B g h) (a' : Apart D B g h) (making : Option Half) (lent : Lent D) (now : D) → AllOwn es → Marked lent now es x.apart a' making → PlaceMoves (Some lent) None es x (with_disk a' now making)
  marks es x a' making lent now own marked = record {
    stands = λ first log is. (marked_stands first log es x.apart a' making lent x.disk now own marked is.0, marked.made);
    generation = marked.moves.generation;
    staged = marked.moves.staged;
  }

  -- ---- what stood stands after the call

  pub moved : (had has : Option (Lent D)) (first : D) (log es : List BookEntry) (x x' : Place D B g h) → PlaceMoves had has es x x' → StandsWith Stands Knows had first (taken log x) → Over first (log ++ es) x'.apart
  moved None None first log es x x' moves stands = over_there (moves.stands first log stands.lent stands.is)
    where
      over_there : Stands first (log ++ es) x' stands.lent → Over first (log ++ es) x'.apart
      over_there is = over_some first (log ++ es) x'.apart x'.disk stands.lent is.0
  moved None (Some b) first log es x x' moves stands = over_some first (log ++ es) x'.apart x'.disk (Some b) (moves.stands first log stands.lent stands.is).1.0
  moved (Some b) None first log es x x' moves stands = over_some first (log ++ es) x'.apart x'.disk None (moves.stands first log (subst (λ o. Stands first log x o) stands.knows stands.is)).0
  moved (Some b) (Some c) first log es x x' moves stands = absurd (moves.stands first log)

  -- ---- the disk, where it is there

  disk_of_lent : (first : D) (log : List BookEntry) (x : Place D B g h) (disk : Option D) (lent : Option (Lent D)) → x.disk ≡ disk → is_some disk ≡ true → StandsOver first log x.apart disk lent → MakesOver x.apart disk lent x.making → HasDisk x
  disk_of_lent first log x (Some disk) None there some is makes = record { its = disk; disk = there; home = is.2; rests = is.1; making = makes }
  disk_of_lent first log x (Some disk) (Some lent) there some is makes = absurd is
  disk_of_lent first log x None lent there some is makes = absurd (cc)

  pub disk_there : (had : Option (Lent D)) (first : D) (log : List BookEntry) (x : Place D B g h) → is_some x.disk ≡ true → StandsWith Stands Knows had first (taken log x) → HasDisk x
  disk_there had first log x some stands = disk_of_lent first log x x.disk stands.lent refl some stands.is.0 stands.is.1

  disk_whole : (first : D) (log : List BookEntry) (x : Place D B g h) (disk : Option D) → x.disk ≡ disk → StandsOver first log x.apart disk None → MakesOver x.apart disk None x.making → HasDisk x
  disk_whole first log x (Some disk) there is makes = record { its = disk; disk = there; home = is.2; rests = is.1; making = makes }
  disk_whole first log x None there is makes = absurd is

  -- and where nothing is lent it is there
  pub whole_there : (first : D) (log : List BookEntry) (x : Place D B g h) → Stands first log x None → HasDisk x
  whole_there first log x is = disk_whole first log x x.disk refl is.0 is.1

  -- who takes the store and sees that the disk is there has it
  pub tells_disk : (v : View (Place D B g h) D (Lent D)) (log : List BookEntry) (x : Place D B g h) → IsMine v → Tells Stands Knows v (taken log x) → is_some x.disk ≡ true → HasDisk x
  tells_disk Vacant log x mine tells some = absurd mine
  tells_disk Founding log x mine tells some = absurd mine
  tells_disk Spent log x mine tells some = absurd mine
  tells_disk (Master d) log x mine tells some = disk_there None d.first log x some tells.3
  tells_disk (Worker h) log x mine tells some = disk_there h.lent h.first log x some tells.0.0

  -- ---- who is admitted to a store in the slot

  pub admits_laid : (pass : Pass) (store : Segment D B g h) (x : Place D B g h) → IsLaid store x → Admits pass (alone x.apart) → Admits pass (moment store)
  admits_laid pass store x laid is = admits_over pass (moment store).commits (disk_of store) (apart_of store) (subst (λ (a : Apart D B g h). Admits pass (alone a)) laid.apart is)

  pub laid_admits : (pass : Pass) (store : Segment D B g h) (x : Place D B g h) → IsLaid store x → Admits pass (moment store) → Admits pass (alone x.apart)
  laid_admits pass store x laid is =
      subst (λ (a : Apart D B g h). Admits pass (alone a)) (sym laid.apart) (admits_alone pass (moment store).commits (disk_of store) (apart_of store) is)

  -- the generation is the store's
  pub laid_generation : (store : Segment D B g h) (x : Place D B g h) → IsLaid store x → x.apart.generation ≡ (moment store).generation
  laid_generation store x laid = ap (λ (a : Apart D B g h). a.generation) laid.apart

  pub for_whole : (generation : Place D B g h → ℕ) (pass : Pass) (x : Place D B g h) (m : Seated (Place D B g h) D (Lent D)) (r : Result (Place D B g h) StoreNo) (n : Seated (Place D B g h) D (Lent D)) → IsFor generation pass x m r n → HasDisk x → IfOk r (λ y. HasDisk y)
  for_whole generation pass x m (Ok y) n is has = subst (λ (z : Place D B g h). HasDisk z) (sym is.0) has
  for_whole generation pass x m (Err refusal) n is has = tt
