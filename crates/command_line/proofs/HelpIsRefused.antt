-- Words that name the command help are refused, so words that aren't refused name a command that the program has.
use Rattle.std.proofs.Common.{◌≡◌, ◌≢◌, cond, ℕ, Bool, true, false, List, [], ◌∷◌, Option, Some, None, refl, sym, ap}
use Rattle.std.proofs.Common.{◌∙◌, ◌++◌, ◌⊎◌, inl, inr, true≢false, if◌then◌else◌, codes}
use Rattle.std.specs.Prelude.{fold, find, option_and_then, option_map, ◌||◌}
use Rattle.std.specs.Option.{option_map_or}
use Rattle.std.specs.Str.{bytes_eq}
use Rattle.std.proofs.lemmas.Slice.Eq.{bytes_eq-Decides}
use Rattle.clap.specs.Walk.{Held, Names, Outcome, Rule, Row, Step, Text, Waiting, Walk, after_flag, after_step}
use Rattle.clap.specs.Walk.{answers_to, arg_by_index, done, idle, long_or_other, next, option, plain_word}
use Rattle.clap.specs.Walk.{plain as kept, positional, refused, short_or_plain, subcommand, subcommand_met}
use Rattle.clap.specs.Walk.{subcommand_or_other, to_positional, trailing, value, waits, walked, walked_from}
use Rattle.clap.specs.Lexer.{long_of, short_of}
use Rattle.clap.specs.Simple.{Shape, argument_words, built, built_leaf, help_shape, label_of, names_of, rows_at}
use Rattle.clap.specs.Simple.{subcommand_of}
use Rattle.clap.specs.Faults.{fault_of, other_fault, turn_fault, walk_fault}
use Rattle.clap.specs.Kinds.{Kinds, or_else}
use Rattle.clap.specs.Walk.{nothing_held, walk, walk_from}
use Rattle.clap.proofs.OnLiterals.{clap_on_literals}
use Rattle.command_line.specs.App.{Parsers, check_app, ends_app, litmus_app, tardis_app, trace_app}

no_first : (a b : Kinds) → or_else a b ≡ [] → a ≡ []
no_first [] b e = refl
no_first (k ∷ a) b e = absurd cc

no_second : (a b : Kinds) → or_else a b ≡ [] → b ≡ []
no_second [] b e = e
no_second (k ∷ a) b e = absurd cc

-- ---- only a word that names a subcommand stops the walk

abbrev NotNamed : Step → Type 0
NotNamed (subcommand name) = ⊥
NotNamed (next waiting) = Unit {0}
NotNamed (trailing position) = Unit {0}
NotNamed value = Unit {0}

plain : (c : List Rule) (waiting : Waiting) (word : Text) (h : Held) → NotNamed (plain_word c waiting word h).1
plain c idle word h = tt
plain c (option id) word h = tt
plain c positional word h = tt

after : (c : List Rule) (waiting : Waiting) (word : Text) (h : Held) (o : Outcome) →
    NotNamed (after_flag c waiting word h o).1
after c waiting word h done = tt
after c waiting word h (waits id) = tt
after c waiting word h kept = plain c waiting word h
after c waiting word h refused = plain c waiting word h

long_or : (c : List Rule) (waiting : Waiting) (word : Text) (o : Option (Text × Option Text)) (h : Held) →
    NotNamed (long_or_other c waiting word o h).1
long_or c waiting word (Some p) h = after c waiting word _ _
long_or c waiting word None h = short (short_of word)
  where
    short : (o : Option Text) → NotNamed (short_or_plain c waiting word o h).1
    short (Some flags) = after c waiting word _ _
    short None = plain c waiting word h

other : (c : List Rule) (waiting : Waiting) (position : ℕ) (word : Text) (h : Held) →
    NotNamed (subcommand_or_other c None waiting position word h).1
other c waiting position word h = by (bytes_eq word (45 ∷ 45 ∷ []))
  where
    by : (b : Bool) → NotNamed (let r : Held × Step = if b then (h, trailing position) else long_or_other c waiting
        word (long_of word) h in r).1
    by true = tt
    by false = long_or c waiting word (long_of word) h

-- ---- a walk without a fault stops at no help

abbrev NoHelp : Option (Text × List Text) → Type 0
NoHelp None = Unit {0}
NoHelp (Some p) = bytes_eq p.0 (codes "help") ≡ false

goes_on : (c : List Rule) (word : Text) (w : Walk) (h : Held) (step : Step) → NotNamed step → w.stopped ≡ None →
    (after_step c word w h step).stopped ≡ None
goes_on c word w h (subcommand name) n e = absurd n
goes_on c word w h (next waiting) n e = e
goes_on c word w h (trailing position) n e = e
goes_on c word w h value n e = by (arg_by_index c w.position)
  where
    by : (o : Option Rule) → (to_positional c o word w h).stopped ≡ None
    by None = e
    by (Some a) = refl

-- one more word
module _ (s : Shape) (names : Names) (enabled : s.disable_help_subcommand ≡ false) where
  named : (name word : Text) (h : Held) → other_fault s (Some name) word h ≡ [] → bytes_eq name (codes "help") ≡ false
  named name word h e = by (bytes_eq name (codes "help")) refl
    where
      by : (b : Bool) → bytes_eq name (codes "help") ≡ b → b ≡ false
      by false is = refl
      by true is = let bad : other_fault s (Some name) word h ≢ [] =
          rw (is, enabled) (λ none. absurd cc) in absurd (bad e)

  met_next : (w : Walk) (word : Text) (o : Option Text) → other_fault s o word w.held ≡ [] → w.stopped ≡ None
      → NoHelp (let met = subcommand_or_other s.rules o w.waiting w.position word w.held in
      after_step s.rules word w met.0 met.1).stopped
  met_next w word (Some name) passes e = named name word w.held passes
  met_next w word None passes e =
      rw (goes_on s.rules word w _ _ (other s.rules w.waiting w.position word w.held) e) tt

  trails : (w : Walk) (word : Text) (b : Bool) → cond b [] (other_fault s (subcommand_met names w.waiting word) word
      w.held) ≡ [] → w.stopped ≡ None
      → NoHelp (let met : Held × Step = if b then (w.held, value) else subcommand_or_other s.rules
      (subcommand_met names w.waiting word) w.waiting w.position word w.held in
      after_step s.rules word w met.0 met.1).stopped
  trails w word true passes e = rw (goes_on s.rules word w w.held value tt e) tt
  trails w word false passes e = met_next w word (subcommand_met names w.waiting word) passes e

  one_word : (w : Walk) (word : Text) (o : Option (Text × List Text)) → w.stopped ≡ o →
      turn_fault s names w word ≡ [] → NoHelp o → NoHelp (walked_from s.rules names o w word).stopped
  one_word w word (Some p) e passes before = before
  one_word w word None e passes before =
      trails w word w.is_trailing (no_first _ _ (let t : _ = passes in rw (e) at t)) e

  next_word : (w : Walk) (word : Text) → turn_fault s names w word ≡ [] → NoHelp w.stopped →
      NoHelp (walked s.rules names w word).stopped
  unfolding walked
  next_word w word passes before = one_word w word w.stopped refl passes before

  all_words : (w : Walk) (ws : List Text) → walk_fault s names w ws ≡ [] → NoHelp w.stopped →
      NoHelp (fold (walked s.rules names) w ws).stopped
  unfolding walk_fault
  all_words w [] passes before = before
  all_words w (word ∷ ws) passes before = all_words (walked s.rules names w word) ws (no_second _ _ passes)
      (next_word w word (no_first _ _ passes) before)

-- ---- the program's commands

or_false : (b : Bool) → (b || false) ≡ true → b ≡ true
or_false true e = refl
or_false false e = e

-- the name of what was entered
abbrev name_in : Option (Text × List Row) → Text
name_in o = option_map_or (λ q. q.0) o []

-- the name is that of one of these commands
abbrev IsNameOf : Text → List Shape → Type 0
IsNameOf n [] = ⊥
IsNameOf n (s ∷ shapes) = (n ≡ s.name) ⊎ IsNameOf n shapes

-- behind commands stands help, which isn't entered
module _ (q : Text × List Text) (n : Text) (r : List Row) (help : Shape) (helps : (word : Text) → answers_to word
    (label_of help) ≡ (bytes_eq (codes "help") word || false)) (apart : bytes_eq q.0 (codes "help") ≡ false) where
  abbrev rows : Option Shape → Option (Text × List Row)
  rows o = option_map (λ s. rows_at s q.1) o

  abbrev entered : List Shape → Option Shape
  entered shapes = find (λ s. answers_to q.0 (label_of s)) shapes

  at_help : (h : Bool) → answers_to q.0 (label_of help) ≡ h → rows (entered (help ∷ [])) ≡ Some (n, r) → ⊥
  at_help true is e =
      let same : bytes_eq (codes "help") q.0 ≡ true = or_false _ (sym (helps q.0) ∙ is) in
      true≢false
      (sym ((bytes_eq-Decides q.0 (codes "help")).1 (sym ((bytes_eq-Decides (codes "help") q.0).0 same))) ∙ apart)
  at_help false is e =
      let passed : entered (help ∷ []) ≡ None = rw (is) refl in
      let none : rows None ≡ Some (n, r) = sym (ap rows passed) ∙ e in absurd cc

  one_entered : (shapes : List Shape) → rows (entered (shapes ++ help ∷ [])) ≡ Some (n, r) → IsNameOf n shapes
  one_entered [] e = at_help (answers_to q.0 (label_of help)) refl e
  one_entered (s ∷ shapes) e = by (answers_to q.0 (label_of s)) refl (one_entered shapes)
    where
      by : (b : Bool) → answers_to q.0 (label_of s) ≡ b
          → (rows (entered (shapes ++ help ∷ [])) ≡ Some (n, r) → IsNameOf n shapes) → IsNameOf n (s ∷ shapes)
      by true is later =
          let first : entered (s ∷ shapes ++ help ∷ []) ≡ Some s = rw (is) refl in
          inl (sym (ap name_in (sym (ap rows first) ∙ e)))
      by false is later =
          let passed : entered (s ∷ shapes ++ help ∷ []) ≡ entered (shapes ++ help ∷ []) = rw (is) refl in
          inr (later (sym (ap rows passed) ∙ e))

stopped_at : (shapes : List Shape) (help : Shape) → ((word : Text) → answers_to word (label_of help) ≡
    (bytes_eq (codes "help") word || false)) → (stop : Option (Text × List Text)) (n : Text) (r : List Row) → NoHelp
    stop → option_and_then (λ q. option_map (λ s. rows_at s q.1) (find (λ s. answers_to q.0 (label_of s))
    (shapes ++ help ∷ []))) stop ≡ Some (n, r) → IsNameOf n shapes
stopped_at shapes help helps None n r apart e = absurd cc
stopped_at shapes help helps (Some q) n r apart e = one_entered q n r help helps apart shapes e

enabled : (p : Parsers) → (built (tardis_app p)).top.disable_help_subcommand ≡ false
unfolding clap_on_literals
enabled p = refl

abbrev commands : Parsers → List Shape
commands p =
    built_leaf (litmus_app p.0).top ∷ built_leaf ends_app.top ∷ built_leaf (trace_app p.1).top
    ∷ built_leaf check_app.top ∷ []

subs : (p : Parsers) → (built (tardis_app p)).subs ≡ commands p ++ built_leaf help_shape ∷ []
unfolding clap_on_literals
subs p = refl

abbrev IsCommand : Text → Type 0
IsCommand n = (n ≡ codes "litmus") ⊎ (n ≡ codes "ends") ⊎ (n ≡ codes "trace") ⊎ (n ≡ codes "check")

pub one_is_named : (p : Parsers) (words : List Text) (n : Text) (r : List Row) → fault_of (tardis_app p) words ≡ [] →
    subcommand_of (tardis_app p) words ≡ Some (n, r) →
    IsCommand n
one_is_named p words n r passes e =
    let top = (built (tardis_app p)).top in
    let names = names_of (built (tardis_app p)) in
    let given = argument_words (tardis_app p) words in
    let stop = (walk top.rules names nothing_held given).stopped in
    named (stopped_at (commands p) (built_leaf help_shape) (λ word. refl) stop n r
    (all_words top names (enabled p) (walk_from nothing_held) given (no_first _ _ passes) tt)
    (ap (λ shapes. option_and_then (λ q. option_map (λ s. rows_at s q.1) (find (λ s. answers_to q.0 (label_of s))
    shapes)) stop) (sym (subs p)) ∙ e))
  where
    named : IsNameOf n (commands p) → IsCommand n
    named (inl litmus) = inl litmus
    named (inr (inl ends)) = inr (inl ends)
    named (inr (inr (inl trace))) = inr (inr (inl trace))
    named (inr (inr (inr (inl check)))) = inr (inr (inr check))
    named (inr (inr (inr (inr none)))) = absurd none
