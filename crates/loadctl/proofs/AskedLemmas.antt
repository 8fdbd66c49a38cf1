-- Arguments ask for one thing.
use Rattle.std.proofs.Common.{◌≡◌, ℕ, List, [], get_or, sym, ap, ◌∙◌, bytes_eq, if◌then◌else◌}
use Rattle.std.specs.Prelude.{codes}
use Rattle.plan_commands.specs.declared.arguments.Command.{Command}
use Rattle.plan_commands.specs.Arguments.{Job, AskFor, IsCommand, AreInvalid, arguments_of}
use Rattle.plan_commands.specs.Commands.{job_of}
use Rattle.plan_commands.specs.Arguments.AskFor.{place_usually, place_within, check_certificate, best_usually, best_within, why_usually, why_within, check_best, priced_usually, priced_within, check_prices, stops_usually, stops_within, transit_usually, transit_within, transit_task, generate_load}
use Rattle.loadctl.specs.Desk.{AskForDesk}
use Rattle.loadctl.specs.Serve.{AskForServe, AskForNoServe}
use Rattle.loadctl.specs.declared.asked.AskedDesk.{AskedDesk}
use Rattle.loadctl.specs.declared.asked.AskedServe.{AskedServe}
use Rattle.loadctl.specs.declared.asked.AskedOne.{AskedOne}
use Rattle.loadctl.specs.declared.asked.AskedOne.TheVariants as one
use Rattle.loadctl.specs.declared.asked.Asked.{Asked}
use Rattle.loadctl.specs.declared.asked.Asked.TheVariants as asked
use Rattle.loadctl.specs.Asked.{AskForDeskOver, AskForServeOver, AskOne, Ask}
use Rattle.loadctl.specs.Needs.{AskForNothing}

-- what the first argument asks for: one desk, several desks, or neither
data Asks : Type 0 where
  one_desk : Asks
  several_desks : Asks
  neither : Asks

asks_by : List ℕ → Asks
asks_by word = if bytes_eq word (codes "desk") then one_desk else if bytes_eq word (codes "serve") then several_desks else neither

asks_for : List (List ℕ) → Asks
asks_for arguments = asks_by (get_or arguments 0 [])

module _ (arguments : List (List ℕ)) where
  command-asks : (job : Job) → AskFor arguments job → asks_for arguments ≡ neither
  unfolding asks_by asks_for
  command-asks _ (place_usually task is) = ap asks_for is
  command-asks _ (place_within task n is low high) = ap asks_for is
  command-asks _ (check_certificate task c is) = ap asks_for is
  command-asks _ (best_usually task is) = ap asks_for is
  command-asks _ (best_within task n is low high) = ap asks_for is
  command-asks _ (why_usually task is) = ap asks_for is
  command-asks _ (why_within task n is low high) = ap asks_for is
  command-asks _ (check_best task c is) = ap asks_for is
  command-asks _ (priced_usually task is) = ap asks_for is
  command-asks _ (priced_within task n is low high) = ap asks_for is
  command-asks _ (check_prices task c is) = ap asks_for is
  command-asks _ (stops_usually file is) = ap asks_for is
  command-asks _ (stops_within file n is low high) = ap asks_for is
  command-asks _ (transit_usually names is stations) = ap asks_for is
  command-asks _ (transit_within names n is stations low high) = ap asks_for is
  command-asks _ (transit_task names is stations) = ap asks_for is
  command-asks _ (generate_load n is fits) = ap asks_for is

  desk-asks : (names : List (List ℕ)) → AskForDesk arguments names → asks_for arguments ≡ one_desk
  unfolding asks_by asks_for
  desk-asks names is = ap asks_for is.form

  serve-asks : (n p : ℕ) (names : List (List ℕ)) → AskForServe arguments n p names → asks_for arguments ≡ several_desks
  unfolding asks_by asks_for
  serve-asks n p names is = ap asks_for is.form

  -- a command about a task, a load or a flight in transit asks for no office
  pub command-no_desk : (job : Job) → IsCommand arguments job → (names : List (List ℕ)) → AskForDesk arguments names → ⊥
  command-no_desk job command names is = let c = command-asks job command.form in let d = desk-asks names is in cc

  pub command-no_serve : (job : Job) → IsCommand arguments job → AskForNoServe arguments
  command-no_serve job command n p names is = let c = command-asks job command.form in let s = serve-asks n p names is in cc

  -- nor do several desks ask for a command, or one desk for several
  pub serve-no_command : (n p : ℕ) (names : List (List ℕ)) → AskForServe arguments n p names → AreInvalid arguments
  serve-no_command n p names is job command = command-no_serve job command n p names is

  pub desk-no_serve : (names : List (List ℕ)) → AskForDesk arguments names → AskForNoServe arguments
  desk-no_serve names is n p others other = let d = desk-asks names is in let s = serve-asks n p others other in cc

  -- the store of a desk is the one
  pub one-store : (names others : List (List ℕ)) (one : AskForDesk arguments names) (other : AskForDesk arguments others) → one.store ≡ other.store
  one-store names others one other = let e = sym one.form ∙ other.form in cc

  pub one-store-served : (n p m q : ℕ) (names others : List (List ℕ)) (one : AskForServe arguments n p names) (other : AskForServe arguments m q others) → one.store ≡ other.store
  one-store-served n p m q names others one other = let e = sym one.form ∙ other.form in cc

  -- what is asked, where it is known
  pub ask-one : (what : Asked) (alone : AskedOne) → Ask arguments what → what ≡ asked.One alone → AskOne arguments alone
  ask-one what alone are is = rw is at are

  pub ask-serve : (what : Asked) (serve : AskedServe) → Ask arguments what → what ≡ asked.Serve serve
      → AskForServeOver arguments serve.desks serve.port serve.store.now (arguments_of serve.fleet.now)
  ask-serve what serve are is = rw is at are

  pub ask-task : (alone : AskedOne) (command : Command) → AskOne arguments alone → alone ≡ one.Task command → IsCommand arguments (job_of command)
  ask-task alone command are is = rw is at are

  pub ask-desk : (alone : AskedOne) (desk : AskedDesk) → AskOne arguments alone → alone ≡ one.Desk desk
      → AskForDeskOver arguments desk.store.now (arguments_of desk.fleet.now)
  ask-desk alone desk are is = rw is at are

  pub ask-nothing : (alone : AskedOne) → AskOne arguments alone → alone ≡ one.Nothing → AskForNothing arguments
  ask-nothing alone are is = rw is at are

  -- what asks for no door asks for no desks
  pub one-no_serve : (alone : AskedOne) → AskOne arguments alone → AskForNoServe arguments
  one-no_serve (one.Task command) are = command-no_serve (job_of command) are
  one-no_serve (one.Desk desk) are = desk-no_serve (arguments_of desk.fleet.now) are.desk
  one-no_serve one.Nothing are = are.no_desks
