pub mod MachineWords
