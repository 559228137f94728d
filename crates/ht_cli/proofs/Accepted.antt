-- What the words say of the status.
use Rattle.std.specs.Prelude.{◌≡◌, ◌⊎◌, ℕ, true, List, Option, Some, None, String, is_some, map, string_bytes}
use Rattle.std.specs.Global.{Global}
use Rattle.std.proofs.Common.{refl, subst, sym, inl, inr}
use Rattle.std.proofs.lemmas.Bool.{true≢false}
use Rattle.ht_io.specs.Devices.{Device, Rose}
use Rattle.ht_text.specs.Lines.{usage_text}
use Rattle.ht_words.specs.declared.asked.Asked.{Asked}
use Rattle.ht_words.specs.Accepted.{IsAccepted}
use Rattle.ht_words.specs.Words.{asked}
use Rattle.ht_words.proofs.Acceptance.{accepted_asks, asks_accepted}
use Rattle.ht_cli.specs.declared.status.Status.{Status}
use Rattle.ht_cli.specs.declared.status.Status.TheVariants.{Done, Refused, Usage, ReadFault, WriteFault, NoMemory}
use Rattle.ht_cli.specs.Commands.{Answers, Command, Converts, Makes, Reads, Rejects}
use Rattle.ht_cli.specs.Tasks.{Answered, command_of}

module _ (a b c d : Device ℕ) where
  -- no command answers Usage
  never_usage : (command : Command) → Answers command a b c d Usage → ⊥
  never_usage (Reads f) run = run
  never_usage (Converts f) run = run
  never_usage (Makes IsText) run = run

  no_usage : (asked : Option Asked) → is_some asked ≡ true → Answered asked a b c d Usage → ⊥
  no_usage (Some asked) some run = never_usage (command_of asked) run
  no_usage None some run = absurd (true≢false (sym some))

  -- words that ask for nothing are answered by Usage
  only_usage : (status : Status) → Rejects usage_text c d status → (Rose c d → ⊥) → (status ≡ Usage) ⊎ (status ≡ NoMemory)
  only_usage Done run whole = absurd run
  only_usage Refused run whole = absurd run
  only_usage Usage run whole = inl refl
  only_usage ReadFault run whole = absurd run
  only_usage WriteFault run whole = absurd (whole run.1)
  only_usage NoMemory run whole = inr refl

  none_usage : (asked : Option Asked) (status : Status) → (is_some asked ≡ true → ⊥) → Answered asked a b c d status → (Rose c d → ⊥)
      → (status ≡ Usage) ⊎ (status ≡ NoMemory)
  none_usage None status none run whole = only_usage status run whole
  none_usage (Some asked) status none run whole = absurd (none refl)

  -- and by none of these
  never : (status : Status) → Rejects usage_text c d status → (status ≡ Done) ⊎ (status ≡ Refused) ⊎ (status ≡ ReadFault) → ⊥
  never status run (inl is) = subst (λ (s : Status). Rejects usage_text c d s) is run
  never status run (inr (inl is)) = subst (λ (s : Status). Rejects usage_text c d s) is run
  never status run (inr (inr is)) = subst (λ (s : Status). Rejects usage_text c d s) is run

  some_ends : (asked : Option Asked) (status : Status) → Answered asked a b c d status
      → (status ≡ Done) ⊎ (status ≡ Refused) ⊎ (status ≡ ReadFault) → is_some asked ≡ true
  some_ends (Some asked) status run is = refl
  some_ends None status run is = absurd (never status run is)

  pub usage_only : (words : List (String Global)) → Answered (asked words) a b c d Usage → IsAccepted (map string_bytes words) → ⊥
  usage_only words run accepted = no_usage (asked words) (accepted_asks (map string_bytes words) accepted) run

  pub usage_always : (words : List (String Global)) (status : Status) → (IsAccepted (map string_bytes words) → ⊥)
      → Answered (asked words) a b c d status → (Rose c d → ⊥) → (status ≡ Usage) ⊎ (status ≡ NoMemory)
  usage_always words status not run whole =
      none_usage (asked words) status (λ asks. not (asks_accepted (map string_bytes words) asks)) run whole

  pub ends_accepted : (words : List (String Global)) (status : Status) → Answered (asked words) a b c d status
      → (status ≡ Done) ⊎ (status ≡ Refused) ⊎ (status ≡ ReadFault) → IsAccepted (map string_bytes words)
  ends_accepted words status run is = asks_accepted (map string_bytes words) (some_ends (asked words) status run is)
