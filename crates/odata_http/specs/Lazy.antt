-- Exchanges whose replies are written as they are taken.
use Rattle.std.specs.Prelude.{◌≡◌, ◌<◌, ◌-◌, ⊤, ℕ, List, Result, Ok, Err}
use Rattle.std.specs.declared.alloc.AllocError.{AllocError}
use Rattle.table_store.specs.Catalog.{CatalogOf}
use Rattle.query_exec.specs.declared.run.Step.{Step}
use Rattle.query_exec.specs.declared.run.Step.TheVariants.{More, Done}
use Rattle.query_exec.specs.declared.run_kept.RunKept.{RunKept}
use Rattle.query_exec.specs.declared.run_kept.RunKept.TheVariants.{Nothing}
use Rattle.query_exec.specs.RunKept.{RunKeeps}
use Rattle.http_heads.specs.Head.{HeadOf}
use Rattle.odata_http.specs.declared.exchange.Exchange.{Exchange}
use Rattle.odata_http.specs.declared.lazy.LazyExchange.{LazyExchange}
use Rattle.odata_http.specs.declared.work.Work.{Work}
use Rattle.odata_http.specs.declared.work.Work.TheVariants.{Read, Waits}
use Rattle.odata_http.specs.Exchange.{Answers, HasFailed, HeadTakes}
use Rattle.odata_http.specs.Reply.{IsReply}

-- the work is done, and this is the reply, which is not written yet
abbrev pub IsWaiting : Work → List ℕ → Type 0
IsWaiting (Waits bytes) reply = bytes ≡ reply
IsWaiting work reply = ⊥

-- What a call makes of an exchange before its reply is written: as `GoesOn` says.
abbrev pub GoesUnlaid : CatalogOf → HeadOf → ℕ → Exchange → Result Step AllocError → Type 0
GoesUnlaid catalog head left exchange (Ok More) = (1 < left) × Answers catalog head (left - 1) exchange
GoesUnlaid catalog head left exchange (Ok Done) = (left ≡ 1) × (reply : List ℕ) × IsReply catalog head reply × IsWaiting exchange.work reply
GoesUnlaid catalog head left exchange (Err fault) = ⊤

-- ---- the same of a lazy exchange as is said of one that lays its reply down

abbrev pub AnswersLazily : CatalogOf → HeadOf → ℕ → LazyExchange → Type 0
AnswersLazily catalog head left lazy = Answers catalog head left lazy.exchange

-- it is done, and gives this reply
abbrev pub GivesLazily : LazyExchange → List ℕ → Type 0
GivesLazily lazy reply = IsWaiting lazy.exchange.work reply

abbrev pub IsLazilyDone : LazyExchange → Type 0
IsLazilyDone lazy = (reply : List ℕ) × GivesLazily lazy reply

-- memory ran out
abbrev pub HasLazilyFailed : LazyExchange → Type 0
HasLazilyFailed lazy = HasFailed lazy.exchange

-- Under which catalog it may go on: before it is over, under one for which it stands for a head.
pub data MayGoOnLazily (catalog : CatalogOf) (lazy : LazyExchange) : Type 0 where
  done : IsLazilyDone lazy → MayGoOnLazily catalog lazy
  failed : HasLazilyFailed lazy → MayGoOnLazily catalog lazy
  answers : (head : HeadOf) (left : ℕ) → AnswersLazily catalog head left lazy → MayGoOnLazily catalog lazy

-- what a call makes of one that was `left` calls before its reply
abbrev pub GoesOnLazily : CatalogOf → HeadOf → ℕ → LazyExchange → Result Step AllocError → Type 0
GoesOnLazily catalog head left lazy result = GoesUnlaid catalog head left lazy.exchange result

-- what the run of a query that is under way keeps; without one it is nothing
abbrev pub WorkKeeps : Work → RunKept → Type 0
WorkKeeps (Read query_run) kept = RunKeeps query_run.run.value kept
WorkKeeps work kept = kept ≡ Nothing

abbrev pub KeepsLazily : LazyExchange → RunKept → Type 0
KeepsLazily lazy kept = WorkKeeps lazy.exchange.work kept

-- one that begins: all its calls are left
pub record BeginsLazily (catalog : CatalogOf) (head : HeadOf) (lazy : LazyExchange) : Type 0 where
  pub calls : ℕ
  pub takes : HeadTakes catalog head calls
  pub answers : AnswersLazily catalog head calls lazy
