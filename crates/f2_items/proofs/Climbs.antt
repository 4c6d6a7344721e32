-- A climb from parent to parent, and what its marks say of cycles.
use Rattle.std.proofs.Common.{◌≡◌, ℕ, ◌+◌, ◌<◌, ◌==◌, ◌⊎◌, Bool, true, false, List, Option, Some, None, length, get_or, set, refl, sym, ap, ◌∙◌, inl, inr, subst, get_or-set_same, get_or-set_other}
use Rattle.std.proofs.lemmas.Bool.{cases_eq, cases_Bool, both_ways, ne_eqb, false_from_ne_true}
use Rattle.f2_items.specs.Ancestors.{parent_in, is_own_ancestor, Leads, LeadsUp, IsClosed, IsMarked, Reached, Climbed, Climbing, CycleMarked, AreSettled}
use Rattle.f2_items.proofs.Ascents.{steps-zero, steps-one, step_before, back, never_ends, closed_along, own_along, leads_from_test, test_from_leads}

-- ---- marks

marked_here : (marks : List Bool) (at : ℕ) → at < length marks → IsMarked (set marks at true) at
marked_here marks at h = get_or-set_same marks at true false h

marked_kept : (marks : List Bool) (at i : ℕ) → at < length marks → IsMarked marks i → IsMarked (set marks at true) i
marked_kept marks at i h m = elim (cases_eq i at) [
  | inl e ↦ subst (λ (k : ℕ). IsMarked (set marks at true) k) (sym e) (marked_here marks at h)
  | inr ne ↦ get_or-set_other marks at i true false ne ∙ m
]

marked_before : (marks : List Bool) (at i : ℕ) → IsMarked (set marks at true) i → IsMarked marks i ⊎ (i ≡ at)
marked_before marks at i m = elim (cases_eq i at) [
  | inl e ↦ inr e
  | inr ne ↦ inl (sym (get_or-set_other marks at i true false ne) ∙ m)
]

-- ---- the parents in a list

pub parent_in-none : (parents : List ℕ) (i : ℕ) → get_or parents i 0 ≡ 0 → parent_in parents i ≡ None
unfolding parent_in
parent_in-none parents i h = rw h refl

pub parent_in-some : (parents : List ℕ) (i : ℕ) → (get_or parents i 0 ≡ 0 → ⊥) → parent_in parents i ≡ Some (get_or parents i 0)
unfolding parent_in
parent_in-some parents i h = let e : (get_or parents i 0 == 0) ≡ false = ne_eqb (get_or parents i 0) 0 h in rw e refl

pub parent_in-is : (parents : List ℕ) (i up : ℕ) → parent_in parents i ≡ Some up → (get_or parents i 0 ≡ up) × (up ≡ 0 → ⊥)
parent_in-is parents i up e = elim (cases_eq (get_or parents i 0) 0) [
  | inl z ↦ absurd (cc (parent_in-none parents i z))
  | inr n ↦ let same : get_or parents i 0 ≡ up = cc (parent_in-some parents i n) in (same, λ z. n (same ∙ z))
]

-- where the list stays below its length, so do the parents
pub parent_in-low : (parents : List ℕ) → ((i : ℕ) → i < length parents → get_or parents i 0 < length parents)
    → (k up : ℕ) → k < length parents → parent_in parents k ≡ Some up → up < length parents
parent_in-low parents low k up h e = subst (λ (n : ℕ). n < length parents) (parent_in-is parents k up e).0 (low k h)

pub nobody_in : (parents : List ℕ) (i : ℕ) → parent_in parents i ≡ Some 0 → ⊥
nobody_in parents i e = (parent_in-is parents i 0 e).1 refl

module _ (parent : ℕ → Option ℕ) where
  -- ---- a climb

  pub climbing_none : (old : List Bool) (start : ℕ) → Climbing parent old old start start
  climbing_none old start = record {
    kept = λ i m. m;
    here = (0, steps-zero parent start);
    starts = inr refl;
    reached = λ i m. inl m;
    closed = λ closed i j m e. inl (closed i j m e);
  }

  module _ (old now : List Bool) (start at : ℕ) (c : Climbing parent old now start at) (inside : at < length now) where
    up_one : (i up : ℕ) → parent at ≡ Some up → LeadsUp parent i at → LeadsUp parent i up
    up_one i up e l = (l.0 + 1, steps-one parent (l.0 + 1) i at l.1 ∙ e)

    at_to : (up : ℕ) → parent at ≡ Some up → LeadsUp parent at up
    at_to up e = (0, steps-one parent 0 at at (steps-zero parent at) ∙ e)

    kept_on : (i : ℕ) → IsMarked old i → IsMarked (set now at true) i
    kept_on i m = marked_kept now at i inside (c.kept i m)

    starts_on : IsMarked (set now at true) start
    starts_on = elim c.starts [
      | inl m ↦ marked_kept now at start inside m
      | inr e ↦ subst (λ (k : ℕ). IsMarked (set now at true) k) e (marked_here now at inside)
    ]

    reached_on : (i : ℕ) → IsMarked (set now at true) i → IsMarked old i ⊎ (Leads parent start i × (LeadsUp parent i at ⊎ (i ≡ at)))
    reached_on i m = elim (marked_before now at i m) [
      | inl before ↦ elim (c.reached i before) [ inl o ↦ inl o | inr r ↦ inr (r.0, inl r.1) ]
      | inr e ↦ inr (subst (λ (k : ℕ). Leads parent start k) (sym e) c.here, inr e)
    ]

    closed_on : IsClosed parent old → (i j : ℕ) → IsMarked (set now at true) i → parent i ≡ Some j → IsMarked (set now at true) j ⊎ ((i ≡ at) × (parent at ≡ Some j))
    closed_on closed i j m e = elim (marked_before now at i m) [
      | inl before ↦ elim (c.closed closed i j before e) [
        | inl there ↦ inl (marked_kept now at j inside there)
        | inr same ↦ inl (subst (λ (k : ℕ). IsMarked (set now at true) k) (sym same) (marked_here now at inside))
      ]
      | inr same ↦ inr (same, ap parent (sym same) ∙ e)
    ]

    pub climbing_more : (up : ℕ) → parent at ≡ Some up → Climbing parent old (set now at true) start up
    climbing_more up e = record {
      kept = kept_on;
      here = (c.here.0 + 1, steps-one parent c.here.0 start at c.here.1 ∙ e);
      starts = inl starts_on;
      reached = λ i m. elim (reached_on i m) [
        | inl o ↦ inl o
        | inr r ↦ inr (
          r.0,
          elim r.1 [
            | inl l ↦ up_one i up e l
            | inr same ↦ subst (λ (k : ℕ). LeadsUp parent k up) (sym same) (at_to up e)
          ],
        )
      ];
      closed = λ closed i j m p. elim (closed_on closed i j m p) [
        | inl there ↦ inl there
        | inr r ↦ let same : Some j ≡ Some up = sym r.1 ∙ e in inr (cc)
      ];
    }

    pub climbed-end : parent at ≡ None → Climbed parent old (set now at true) start 0
    climbed-end e = record {
      marks = record {
        kept = kept_on;
        starts = starts_on;
        reached = λ i m. elim (reached_on i m) [ inl o ↦ inl o | inr r ↦ inr r.0 ];
        closed = λ closed i j m p. elim (closed_on closed i j m p) [
          | inl there ↦ there
          | inr r ↦ let same : None ≡ Some j = sym e ∙ r.1 in absurd (cc)
        ];
      };
      ends = λ z i m. elim (reached_on i m) [
        | inl o ↦ inl o
        | inr r ↦ inr (elim r.1 [
          | inl l ↦ (l.0 + 1, at, l.1, e)
          | inr same ↦ (0, at, steps-zero parent i ∙ ap Some same, e)
        ])
      ];
      stops = λ n. absurd (n refl);
      met = λ n. absurd (n refl);
    }

  -- no parent is 0
  module _ (old now : List Bool) (start at : ℕ) (c : Climbing parent old now start at) (met : IsMarked now at) (nobody : (i : ℕ) → parent i ≡ Some 0 → ⊥) where
    not_up : (i : ℕ) → at ≡ 0 → LeadsUp parent i at → ⊥
    not_up i z l =
        let before = step_before parent l.0 i at l.1 in
        nobody before.0 (before.2 ∙ ap Some z)

    pub climbed-met : Climbed parent old now start at
    climbed-met = record {
      marks = record {
        kept = c.kept;
        starts = elim c.starts [ inl m ↦ m | inr e ↦ subst (λ (k : ℕ). IsMarked now k) e met ];
        reached = λ i m. elim (c.reached i m) [ inl o ↦ inl o | inr r ↦ inr r.0 ];
        closed = λ closed i j m p. elim (c.closed closed i j m p) [
          | inl there ↦ there
          | inr same ↦ subst (λ (k : ℕ). IsMarked now k) (sym same) met
        ];
      };
      ends = λ z i m. elim (c.reached i m) [ inl o ↦ inl o | inr r ↦ absurd (not_up i z r.1) ];
      stops = λ n i m. elim (c.reached i m) [ inl o ↦ inl o | inr r ↦ inr r.1 ];
      met = λ n. met;
    }

  -- ---- numbers settled

  module _ (seen settled own seen' settled' own' : List Bool) (start stop stop' : ℕ) (s : AreSettled parent seen settled own)
      (climb : Climbed parent seen seen' start stop) (cycle : CycleMarked parent settled own own' stop) (rest : Climbed parent settled settled' start stop') where
    along : (marks marks' : List Bool) → Reached parent marks marks' start → IsClosed parent marks → (i : ℕ) → Leads parent start i → IsMarked marks' i
    along marks marks' r closed i l = closed_along parent marks' (r.closed closed) start r.starts l.0 i l.1

    within_on : (i : ℕ) → IsMarked seen' i → IsMarked settled' i
    within_on i m = elim (climb.marks.reached i m) [
      | inl o ↦ rest.marks.kept i (s.within i o)
      | inr l ↦ along settled settled' rest.marks s.settled_closed i l
    ]

    -- a stop that is not settled was met in this climb
    stop_own : (stop ≡ 0 → ⊥) → get_or settled stop false ≡ false → LeadsUp parent stop stop
    stop_own n new = elim (climb.stops n stop (climb.met n)) [
      | inl o ↦ absurd (both_ways _ new (s.within stop o))
      | inr l ↦ l
    ]

    -- three outcomes
    outcome : (own' ≡ own) ⊎ ((stop ≡ 0 → ⊥) × (get_or settled stop false ≡ false) × Reached parent own own' stop)
    outcome = elim (cases_eq stop 0) [
      | inl z ↦ inl (cycle.none (inl z))
      | inr n ↦ elim (cases_Bool (get_or settled stop false)) [
        | inl t ↦ inl (cycle.none (inr t))
        | inr f ↦ inr (n, f, cycle.cycle n f)
      ]
    ]

    own_kept : (i : ℕ) → IsMarked own i → IsMarked own' i
    own_kept i m = elim outcome [
      | inl e ↦ subst (λ (marks : List Bool). IsMarked marks i) (sym e) m
      | inr r ↦ r.2.kept i m
    ]

    own_closed_on : IsClosed parent own'
    own_closed_on = elim outcome [
      | inl e ↦ subst (λ (marks : List Bool). IsClosed parent marks) (sym e) s.own_closed
      | inr r ↦ r.2.closed s.own_closed
    ]

    sound_on : (i : ℕ) → IsMarked own' i → LeadsUp parent i i
    sound_on i m = elim outcome [
      | inl e ↦ s.sound i (subst (λ (marks : List Bool). IsMarked marks i) e m)
      | inr r ↦ elim (r.2.reached i m) [
        | inl o ↦ s.sound i o
        | inr l ↦ own_along parent stop i (stop_own r.0 r.1) l
      ]
    ]

    -- a number of the climb that is its own ancestor is on the cycle that the climb met
    new_own : (i : ℕ) → (IsMarked settled i → ⊥) → LeadsUp parent i i → IsMarked seen' i → IsMarked own' i
    new_own i new l m = elim (cases_eq stop 0) [
      | inl z ↦ elim (climb.ends z i m) [
        | inl o ↦ absurd (new (s.within i o))
        | inr end ↦ absurd (never_ends parent i l end)
      ]
      | inr n ↦ elim (climb.stops n i m) [
        | inl o ↦ absurd (new (s.within i o))
        | inr there ↦ on_cycle n (back parent i stop l (there.0 + 1, there.1))
      ]
    ]
      where
        on_cycle : (stop ≡ 0 → ⊥) → Leads parent stop i → IsMarked own' i
        on_cycle n way = elim (cases_Bool (get_or settled stop false)) [
          | inl t ↦ absurd (new (closed_along parent settled s.settled_closed stop t way.0 i way.1))
          | inr f ↦ let r = cycle.cycle n f in closed_along parent own' own_closed_on stop r.starts way.0 i way.1
        ]

    complete_on : (i : ℕ) → IsMarked settled' i → LeadsUp parent i i → IsMarked own' i
    complete_on i m l = elim (cases_Bool (get_or settled i false)) [
      | inl t ↦ own_kept i (s.complete i t l)
      | inr f ↦ elim (rest.marks.reached i m) [
        | inl o ↦ own_kept i (s.complete i o l)
        | inr way ↦ new_own i (λ t. both_ways _ f t) l (along seen seen' climb.marks s.seen_closed i way)
      ]
    ]

    pub settled_more : AreSettled parent seen' settled' own'
    settled_more = record {
      within = within_on;
      seen_closed = climb.marks.closed s.seen_closed;
      settled_closed = rest.marks.closed s.settled_closed;
      own_closed = own_closed_on;
      sound = sound_on;
      complete = complete_on;
    }

-- where all numbers are settled, the marks are the answers
pub settled_all : (parents : List ℕ) (seen settled own : List Bool) → AreSettled (parent_in parents) seen settled own
    → ((i : ℕ) → i < length parents → get_or parents i 0 < length parents)
    → (i : ℕ) → i < length parents → IsMarked settled i → get_or own i false ≡ is_own_ancestor (parent_in parents) (length parents) i
settled_all parents seen settled own s low i inside m = go (is_own_ancestor (parent_in parents) (length parents) i) refl
  where
    go : (b : Bool) → is_own_ancestor (parent_in parents) (length parents) i ≡ b → get_or own i false ≡ is_own_ancestor (parent_in parents) (length parents) i
    go true e = s.complete i m (leads_from_test (parent_in parents) (length parents) i e) ∙ sym e
    go false e =
        false_from_ne_true (get_or own i false) (λ t. both_ways _ e (test_from_leads (parent_in parents) (length parents) i (parent_in-low parents low) inside (s.sound i t)))
        ∙ sym e

-- ---- the marks of a cycle

module _ (parent : ℕ → Option ℕ) (settled own : List Bool) (stop : ℕ) where
  pub cycle_of_climb : (own' : List Bool) (stop' : ℕ) → (stop ≡ 0 → ⊥) → get_or settled stop false ≡ false → Climbed parent own own' stop stop' → CycleMarked parent settled own own' stop
  cycle_of_climb own' stop' n f climb = record {
    none = λ o. elim o [ inl z ↦ absurd (n z) | inr m ↦ absurd (both_ways (get_or settled stop false) f m) ];
    cycle = λ _ _. climb.marks;
  }
