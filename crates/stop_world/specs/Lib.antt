pub mod StopWorlds
