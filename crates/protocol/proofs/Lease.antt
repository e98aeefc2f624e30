use Rattle.std.proofs.Common.{◌≡◌, ℕ, ◌≤◌, List, length, sym, ◌∙◌, arith, le_trans, le_refl, rules}
use Rattle.std.specs.List.{AllByRecursion as Each}
use Rattle.protocol.proofs.Bags.{each_map}
use Rattle.physiological_order.specs.declared.operation.Record.{Record}
use Rattle.physiological_order.specs.Order.{Memory, address}
use Rattle.protocol.specs.Machine.{Config, Timed, line_of, word_at}

-- h t a is the value of the word a at the time t, by the records so far

-- what the holder of a line's right has: its words are the values from wts on, and nothing of the line comes after rts
pub record Current (f : Config) (h : ℕ → Memory) (records : List Record) (l : ℕ) (s : Timed) : Type 0 where
  pub order : s.wts ≤ s.rts
  pub long : f.line_words ≤ length s.words
  pub value : (t a : ℕ) → line_of f a ≡ l → s.wts ≤ t → h t a ≡ word_at f s.words a
  pub past : Each (λ r. line_of f (address r.op) ≡ l → r.ts ≤ s.rts) records

-- a lease: its words are the values from wts up to rts
pub record Leased (f : Config) (h : ℕ → Memory) (l bound : ℕ) (s : Timed) : Type 0 where
  pub order : s.wts ≤ s.rts
  pub within : s.rts ≤ bound
  pub long : f.line_words ≤ length s.words
  pub value : (t a : ℕ) → line_of f a ≡ l → s.wts ≤ t → t ≤ s.rts → h t a ≡ word_at f s.words a

-- what stands may be handed out
pub Leased-from_Current : (f : Config) (h : ℕ → Memory) (records : List Record) (l : ℕ) (s : Timed) →
    Current f h records l s → Leased f h l s.rts s
Leased-from_Current f h records l s c = search (rules, le_refl)

-- and read longer
pub Current-raise : (f : Config) (h : ℕ → Memory) (records : List Record) (l : ℕ) (s : Timed) (rts : ℕ) →
    s.rts ≤ rts → Current f h records l s → Current f h records l (record s { rts = rts })
Current-raise f h records l s rts le c = search (rules, le_trans, each_map)

-- it may be held to begin later
pub Current-fill : (f : Config) (h : ℕ → Memory) (records : List Record) (l : ℕ) (s : Timed) (t : ℕ)
    (words : List ℕ) → s.rts ≤ t → words ≡ s.words → Current f h records l s →
    Current f h records l (record { wts = t; rts = t; words = words })
Current-fill f h records l s t words le e c = search (rules, le_refl, le_trans, each_map)

-- an equal version has equal words, so a lease of it may be read as long as what stands
pub Leased-renew : (f : Config) (h : ℕ → Memory) (records : List Record) (l b : ℕ) (s c : Timed) (rts : ℕ) →
    Current f h records l s → Leased f h l b c → c.wts ≡ s.wts → s.wts ≤ rts →
    Leased f h l rts (record c { rts = rts })
Leased-renew f h records l b s c rts st le e long =
    record {
      order = omega arith;
      within = (le_refl _);
      long = le.long;
      value = λ t a on from to.
          st.value t a on (omega arith) ∙ sym (st.value c.wts a on (omega arith))
          ∙ le.value c.wts a on (le_refl _) le.order;
    }

-- and what stands may be put on with its words
pub Current-upgrade : (f : Config) (h : ℕ → Memory) (records : List Record) (l b : ℕ) (s c : Timed) →
    Current f h records l s → Leased f h l b c → c.wts ≡ s.wts → Current f h records l (record c { rts = s.rts })
Current-upgrade f h records l b s c st le e =
    record {
      order = (let o = st.order in omega arith);
      long = le.long;
      value = λ t a on from.
          st.value t a on (omega arith) ∙ sym (st.value c.wts a on (omega arith))
          ∙ le.value c.wts a on (le_refl _) le.order;
      past = st.past;
    }
